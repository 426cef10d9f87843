-- An expression is seen as its form is, brought into its own bounds.
use Rattle.std.proofs.Common.{◌≡◌, ℕ, ℤ, pos, ◌+ℤ◌, ◌∙◌, ap, ap₂, sym, List, [], ◌∷◌, map, Some, refl, arith}
use Rattle.std.specs.List.{fold}
use Rattle.std.proofs.lemmas.Int.{ints}
use Rattle.std.proofs.lemmas.Simd.{map-map}
use Rattle.prod_model.specs.declared.model.Model.{Model}
use Rattle.prod_model.specs.declared.expr.Expr.{Expr}
use Rattle.prod_model.specs.declared.expr.Expr.TheOpen.{Expr-F, Num, Attr, Count, CountOf, Sum, Total, Number, Add, Sub, Times, Cmp, Is, Kind, And, Or, Not, If, All, Any}
use Rattle.prod_model.specs.declared.expr.Expr.TheViews.{out-Expr, roll-out-Expr}
use Rattle.prod_model.specs.declared.expr_bounds.Bounds.TheVariants as bounds
use Rattle.prod_model.specs.ExprBounds.{bounds_at, sum_of}
use Rattle.state_space.specs.State.{State}
use Rattle.state_values.specs.declared.interval.Interval.{Interval}
use Rattle.state_values.specs.Ranges.{Range, ranges_sum}
use Rattle.state_values.specs.Seen.{Seen, Part, as_range, seen_at, low, high, within_bounds}
use Rattle.state_values.specs.Seen as seen
use Rattle.state_values.specs.steps.Ends.{ends_of, clamped_ends}
use Rattle.state_values.specs.steps.Forms.{part_at, form_seen, seen_sum}
use Rattle.state_values.proofs.SeenLaws.{seen_at_roll}
use Rattle.state_values.proofs.OwnBounds.{IsNumberForm, number_form}

-- ---- sums

sum_from : (a : ℤ) (ns : List ℤ) → fold ◌+ℤ◌ a ns ≡ (a +ℤ sum_of ns)
sum_from a [] = omega (arith, ints)
sum_from a (n ∷ ns) = let first = sum_from (a +ℤ n) ns in let second = sum_from (pos 0 +ℤ n) ns in omega (arith, ints, first, second)

sum_of_cons : (n : ℤ) (ns : List ℤ) → sum_of (n ∷ ns) ≡ (n +ℤ sum_of ns)
sum_of_cons n ns = let whole = sum_from (pos 0 +ℤ n) ns in omega (arith, ints, whole)

-- the sum of ranges has the sums of their ends
pub low_of_sum : {X : Type 0} (f : X → Range) (xs : List X) → (ranges_sum (map f xs)).low.number ≡ sum_of (map (λ x. (f x).low.number) xs)
low_of_sum f [] = refl
low_of_sum f (x ∷ xs) = ap (λ n. (f x).low.number +ℤ n) (low_of_sum f xs) ∙ sym (sum_of_cons (f x).low.number (map (λ x. (f x).low.number) xs))

pub high_of_sum : {X : Type 0} (f : X → Range) (xs : List X) → (ranges_sum (map f xs)).high.number ≡ sum_of (map (λ x. (f x).high.number) xs)
high_of_sum f [] = refl
high_of_sum f (x ∷ xs) = ap (λ n. (f x).high.number +ℤ n) (high_of_sum f xs) ∙ sym (sum_of_cons (f x).high.number (map (λ x. (f x).high.number) xs))

module _ (m : Model) (s : State) (t i : ℕ) where
  -- An expression is seen as its form, within its own bounds.
  pub seen_form : (e : Expr) → seen_at m s t i e ≡ within_bounds (bounds_at m e t) (form_seen m s t i (out-Expr e))
  seen_form e =
      ap (seen_at m s t i) (sym (roll-out-Expr e))
      ∙ seen_at_roll m s t i (out-Expr e)
      ∙ ap (λ x. within_bounds (bounds_at m x t) (form_seen m s t i (out-Expr e))) (roll-out-Expr e)

  -- a number is seen as a range
  between_form : (form : Expr-F Expr) → IsNumberForm form → form_seen m s t i form ≡ seen.Between (as_range (form_seen m s t i form))
  between_form (Num n) is = refl
  between_form (Attr a) is = refl
  between_form (Count p) is = refl
  between_form (CountOf p u) is = refl
  between_form (Sum p a) is = refl
  between_form (Total u a) is = refl
  between_form (Number u) is = refl
  between_form (Add es) is = refl
  between_form (Sub e f) is = refl
  between_form (Times k e) is = refl
  between_form (Cmp r e f) is = absurd is
  between_form (Is a w) is = absurd is
  between_form (Kind u) is = absurd is
  between_form (And es) is = absurd is
  between_form (Or es) is = absurd is
  between_form (Not e) is = absurd is
  between_form (If e f) is = absurd is
  between_form (All p e) is = absurd is
  between_form (Any p e) is = absurd is

  -- Both ends of a number are those of its form, brought into its bounds.
  pub number_seen : (e : Expr) (own : Interval) → bounds_at m e t ≡ Some (bounds.Number own.low own.high)
      → record { low = low m s t i e; high = high m s t i e } ≡ clamped_ends own (ends_of (as_range (form_seen m s t i (out-Expr e))))
  number_seen e own told =
      let form = number_form m t own.low own.high e told in
      let is = seen_form e ∙ ap₂ within_bounds told (between_form (out-Expr e) form) in
      ap (λ (x : Seen). record { low = (as_range x).low.number; high = (as_range x).high.number }) is

  -- the sum of all arguments
  pub sum_seen : (es : List Expr) → ends_of (ranges_sum (map (λ (e : Part). as_range (e.seen t i)) (map (part_at m s) es))) ≡ seen_sum m s t i es
  sum_seen es =
      ap (λ rs. ends_of (ranges_sum rs)) (map-map (λ (e : Part). as_range (e.seen t i)) (part_at m s) es)
      ∙ ap₂ (λ a b. record { low = a; high = b }) (low_of_sum (λ e. as_range (seen_at m s t i e)) es) (high_of_sum (λ e. as_range (seen_at m s t i e)) es)
