-- What a number is in a state, from what its form is.
use Rattle.std.proofs.Common.{◌≡◌, ℕ, ℤ, pos, negsuc, ◌∙◌, ap, ap₂, sym, subst, Option, Some, None, refl, List}
use Rattle.std.specs.Prelude.{IsTrue}
use Rattle.std.proofs.lemmas.Bool.{false≢true}
use Rattle.prod_model.specs.declared.model.Model.{Model}
use Rattle.prod_model.specs.declared.expr.Expr.{Expr}
use Rattle.prod_model.specs.declared.expr.Expr.TheOpen.{Expr-F, Add, Times}
use Rattle.prod_model.specs.declared.expr.Expr.TheViews.{out-Expr}
use Rattle.prod_model.specs.declared.expr_bounds.Bounds.{Bounds}
use Rattle.prod_model.specs.declared.expr_bounds.Bounds.TheVariants as bounds
use Rattle.prod_model.specs.ExprBounds.{bounds_at, is_number}
use Rattle.prod_model.specs.Valid.{IsDeclared}
use Rattle.state_space.specs.State.{State}
use Rattle.state_values.specs.declared.interval.Interval.{Interval}
use Rattle.state_values.specs.declared.interval.Ends.{Ends}
use Rattle.state_values.specs.Ranges.{Range, range_multiple}
use Rattle.state_values.specs.Seen.{as_range, seen_at, low, high}
use Rattle.state_values.specs.steps.Ends.{ends_of, clamped_ends, multiple_ends, AreLimited}
use Rattle.state_values.specs.steps.Forms.{form_own, form_seen, seen_sum}
use Rattle.state_values.specs.steps.Parts.{Stands, HasParts, IsNumber, IsTruth}
use Rattle.state_values.proofs.FormSeen.{number_seen, sum_seen}
use Rattle.state_values.proofs.OwnBounds.{own_form}
use Rattle.state_values.proofs.PartsThere.{parts_there, truth_told}

-- a number has two bounds
number_told : (o : Option Bounds) → IsTrue (is_number o) → (r : Interval) × (o ≡ Some (bounds.Number r.low r.high))
number_told (Some (bounds.Number a b)) is = (record { low = a; high = b }, refl)
number_told (Some bounds.Truth) is = absurd (false≢true is)
number_told None is = absurd (false≢true is)

-- the multiples of both ends
pub times_seen : (k : ℤ) (r : Range) (seen : Interval) → seen.low ≡ r.low.number → seen.high ≡ r.high.number → multiple_ends k seen ≡ ends_of (range_multiple k r)
times_seen (pos k) r seen low high = ap₂ (λ a b. multiple_ends (pos k) (record { low = a; high = b })) low high
times_seen (negsuc k) r seen low high = ap₂ (λ a b. multiple_ends (negsuc k) (record { low = a; high = b })) low high

module _ (m : Model) (is : IsDeclared m) (s : State) (t i : ℕ) (stands : Stands m s t i) (e : Expr) where
  pub truth_parts : IsTruth m t e → HasParts m s t i (out-Expr e)
  truth_parts truth = parts_there m is s t i stands e bounds.Truth (truth_told (bounds_at m e t) truth)

  module _ (number : IsNumber m t e) where
    pub number_parts : HasParts m s t i (out-Expr e)
    number_parts = let told = number_told (bounds_at m e t) number in parts_there m is s t i stands e (bounds.Number told.0.low told.0.high) told.1

    module _ (own : Ends) (own_is : own ≡ form_own m t (out-Expr e)) where
      pub limited_own : AreLimited own
      limited_own =
          let told = number_told (bounds_at m e t) number in
          subst AreLimited (sym own_is) (own_form m is t told.0.low told.0.high e told.1).limited

      module _ (r : Interval) (r_is : r ≡ record { low = own.low; high = own.high }) where
        pub bounded_own : bounds_at m e t ≡ Some (bounds.Number r.low r.high)
        bounded_own =
            let told = number_told (bounds_at m e t) number in
            let same = own_is ∙ (own_form m is t told.0.low told.0.high e told.1).same in
            told.1 ∙ sym (ap (λ (x : Interval). Some (bounds.Number x.low x.high)) r_is ∙ ap (λ (x : Ends). Some (bounds.Number x.low x.high)) same)

        module _ (seen : Ends) (seen_is : seen ≡ ends_of (as_range (form_seen m s t i (out-Expr e)))) (x : Interval) (x_is : x ≡ clamped_ends r seen) where
          clamped_is : x ≡ record { low = low m s t i e; high = high m s t i e }
          clamped_is = x_is ∙ ap (clamped_ends r) seen_is ∙ sym (number_seen m s t i e r bounded_own)

          pub low_is : x.low ≡ low m s t i e
          low_is = ap (λ (y : Interval). y.low) clamped_is

          pub high_is : x.high ≡ high m s t i e
          high_is = ap (λ (y : Interval). y.high) clamped_is

module _ (m : Model) (s : State) (t i : ℕ) (e : Expr) (seen : Ends) where
  abbrev IsSeen : Expr-F Expr → Type 0
  IsSeen form = seen ≡ ends_of (as_range (form_seen m s t i form))

  -- a sum is seen as the sums of both ends
  pub add_is : (es : List Expr) → out-Expr e ≡ Add es → seen ≡ seen_sum m s t i es → IsSeen (out-Expr e)
  add_is es is seen_is = subst IsSeen (sym is) (seen_is ∙ sym (sum_seen m s t i es))

  -- and a multiple as the multiples of both ends
  pub times_is : (k : ℤ) (f : Expr) (x : Interval) → out-Expr e ≡ Times k f → x.low ≡ low m s t i f → x.high ≡ high m s t i f → seen ≡ multiple_ends k x
      → IsSeen (out-Expr e)
  times_is k f x is below above seen_is =
      subst IsSeen (sym is) (seen_is ∙ times_seen k (as_range (seen_at m s t i f)) x below above)
