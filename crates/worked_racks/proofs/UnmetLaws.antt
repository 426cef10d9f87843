-- What is asked to be beyond its bounds is never met.
use Rattle.std.proofs.Common.{◌≡◌, ℤ, ◌≤ℤ◌, ◌<◌, ◌∙◌, ap, List, ◌∷◌, not, ◌&&◌, ◌||◌, false, length, Option, Some, None, arith}
use Rattle.std.specs.Prelude.{◌<ℤ◌, IsTrue, IfSome, int_le}
use Rattle.std.specs.List.{list_all, enumerate_from}
use Rattle.std.proofs.lemmas.Bool.{and_parts}
use Rattle.std.proofs.lemmas.Int.{ints}
use Rattle.prod_model.specs.declared.expr.Expr.{Expr}
use Rattle.prod_model.specs.declared.expr.Expr.TheOpen.{Cmp}
use Rattle.prod_model.specs.declared.expr.Expr.TheViews.{roll-Expr}
use Rattle.prod_model.specs.declared.expr.Relation.TheVariants.{AtLeast}
use Rattle.prod_model.specs.declared.expr_bounds.Bounds.TheVariants as bounds
use Rattle.prod_model.specs.declared.model.Model.{Model}
use Rattle.prod_model.specs.declared.model.Order.{Order}
use Rattle.prod_model.specs.declared.model.Request.{Request}
use Rattle.prod_model.specs.ExprBounds.{bounds_at}
use Rattle.prod_model.specs.Valid.{IsValid, has_known_types}
use Rattle.config_value.specs.declared.configuration.Instance.{Instance}
use Rattle.config_value.specs.declared.found.Found.{Found}
use Rattle.config_value.specs.declared.found.Found.TheVariants as found
use Rattle.config_value.specs.BoundsHold.{IsWithinBounds}
use Rattle.config_value.specs.Satisfies.{satisfies, meets}
use Rattle.config_value.specs.Shaped.{is_shaped}
use Rattle.config_value.specs.Value.{as_number, as_truth, number_at, value_at}
use Rattle.config_value.proofs.BoundsLaws.{bounds_hold}
use Rattle.config_value.proofs.ShapedSentences.{shaped_sentences}
use Rattle.config_value.proofs.ValueLaws.{value_at_Cmp}
use Rattle.literal_book.specs.Nogoods.{asks_for}
use Rattle.worked_racks.specs.Unmet.{FirstIsUnmet}
use Rattle.worked_racks.specs.steps.Beyond.{IsAtMost, IsAtLeast, IsBelow, IsNever}

shaped_of : (m : Model) (c : List Instance) → IsTrue (satisfies m c) → IsTrue (is_shaped m c)
unfolding satisfies
shaped_of m c satisfied = (and_parts _ _ (and_parts _ _ satisfied).0).0

number_within : (low high : ℤ) (v : Found) → IsWithinBounds (bounds.Number low high) v → (low ≤ℤ as_number v) × (as_number v ≤ℤ high)
number_within low high (found.Number n) within = within
number_within low high (found.Truth b) within = absurd within

-- the root type is a type
pub root_is_type : (m : Model) → IsValid m → m.root < length m.types
unfolding has_known_types
root_is_type m valid = grind (arith, valid.declared.known_types)

root_within : (m : Model) (e : Expr) (low high : ℤ) → IsValid m → bounds_at m e m.root ≡ Some (bounds.Number low high) → (c : List Instance) → IsTrue (satisfies m c)
    → (low ≤ℤ number_at m c 0 e) × (number_at m c 0 e ≤ℤ high)
root_within m e low high is told c satisfied =
    let shaped = shaped_of m c satisfied in
    let root = ((shaped_sentences m c).0 shaped).root in
    number_within low high (value_at m c 0 e) (bounds_hold m c e 0 m.root root.instance (bounds.Number low high) is.declared shaped root.there root.of_type told)

-- a number is at most the high end of its bounds
pub at_most_bound : (m : Model) (e : Expr) (low high : ℤ) → IsValid m → bounds_at m e m.root ≡ Some (bounds.Number low high) → IsAtMost m e high
at_most_bound m e low high is told c satisfied = (root_within m e low high is told c satisfied).1

-- and at least the low end
pub at_least_bound : (m : Model) (e : Expr) (low high : ℤ) → IsValid m → bounds_at m e m.root ≡ Some (bounds.Number low high) → IsAtLeast m e low
at_least_bound m e low high is told c satisfied = (root_within m e low high is told c satisfied).0

never_beyond : (m : Model) (e n : Expr) (most least : ℤ) → IsAtMost m e most → IsAtLeast m n least → most <ℤ least → IsNever m (roll-Expr (Cmp AtLeast e n))
never_beyond m e n most least at_most at_least above c satisfied =
    ap as_truth (value_at_Cmp m c 0 AtLeast e n) ∙ falls (number_at m c 0 e) (number_at m c 0 n) (at_most c satisfied) (at_least c satisfied)
  where
    falls : (v w : ℤ) → v ≤ℤ most → least ≤ℤ w → int_le w v ≡ false
    falls v w below over = grind (arith, ints)

-- a number is not at least another one that is beyond all that it can be
pub never_too_much : (m : Model) (e n : Expr) (most least : Option ℤ) → IfSome most (IsAtMost m e) → IfSome least (IsAtLeast m n) → IsBelow most least → IsNever m (roll-Expr (Cmp AtLeast e n))
never_too_much m e n (Some most) (Some least) at_most at_least above = never_beyond m e n most least at_most at_least above
never_too_much m e n (Some most) None at_most at_least above = absurd above
never_too_much m e n None least at_most at_least above = absurd above

-- where the first request is false, it is not met
pub unmet_first : (m : Model) (o : Order) (r : Request) (more : List Request) → o.requests ≡ r ∷ more → IsNever m r.holds → FirstIsUnmet m o
unfolding meets
unmet_first m o r more first never c satisfied =
    ap (λ rs. list_all (λ e. not (asks_for 1 e.0) || meets m c e.1) (enumerate_from 0 rs)) first
    ∙ ap (λ b. b && list_all (λ e. not (asks_for 1 e.0) || meets m c e.1) (enumerate_from 1 more)) (never c satisfied)
