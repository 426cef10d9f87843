-- Where an expression has bounds, its parts have them too, and its number is small.
use Rattle.std.proofs.Common.{◌≡◌, ℕ, ℤ, zero, suc, neg_ℤ, ◌+ℤ◌, ◌-ℤ◌, ◌*ℤ◌, ◌≤ℤ◌, ◌∙◌, ap, sym, subst, cond, Bool, true, false, ◌&&◌, List, [], ◌∷◌, map, Option, Some, None, refl, arith}
use Rattle.std.specs.Prelude.{slice_get, int_le}
use Rattle.std.specs.Int.{int_min, int_max}
use Rattle.std.proofs.lemmas.Bool.{and_parts}
use Rattle.std.proofs.lemmas.Int.{ints}
use Rattle.std.proofs.lemmas.Option.{same_Some, none-some}
use Rattle.prod_model.specs.declared.model.AttrAt.{AttrAt}
use Rattle.prod_model.specs.declared.model.Domain.{Domain}
use Rattle.prod_model.specs.declared.model.Domain.TheVariants.{Range, Words}
use Rattle.prod_model.specs.declared.expr_bounds.Bounds.{Bounds}
use Rattle.prod_model.specs.declared.expr_bounds.Bounds.TheVariants.{Number, Truth}
use Rattle.prod_model.specs.Limits.{is_within, farthest_bound}
use Rattle.prod_model.specs.ExprBounds.{bounded, difference, multiple, comparison, truth_of, of_range}
use Rattle.prod_model.specs.steps.ExprBounds.{sum_onto}
use Rattle.config_value.specs.declared.found.Found.TheVariants as found
use Rattle.config_value.specs.BoundsHold.{IsWithinBounds}
use Rattle.answer_check.specs.steps.Evaluable.{IsSmall}

-- ---- bounds lie within the limits

-- both ends are small; a truth has none
abbrev pub IsLimited : Bounds → Type 0
IsLimited (Number low high) = (neg_ℤ farthest_bound ≤ℤ low) × (high ≤ℤ farthest_bound)
IsLimited Truth = Unit {0}

pub within_small : (b : Bounds) (n : ℤ) → IsLimited b → IsWithinBounds b (found.Number n) → IsSmall n
within_small (Number low high) n limited within = record { low = omega (arith, ints, limited.0, within.0); high = omega (arith, ints, limited.1, within.1) }
within_small Truth n limited within = absurd within

ends_limited : (low high : ℤ) → (is_within farthest_bound low && is_within farthest_bound high) ≡ true → (neg_ℤ farthest_bound ≤ℤ low) × (high ≤ℤ farthest_bound)
ends_limited low high within =
    let both = and_parts (is_within farthest_bound low) (is_within farthest_bound high) within in
    let low_ends = and_parts (int_le (neg_ℤ farthest_bound) low) (int_le low farthest_bound) both.0 in
    let high_ends = and_parts (int_le (neg_ℤ farthest_bound) high) (int_le high farthest_bound) both.1 in
    (let first = low_ends.0 in grind (arith, ints), let last = high_ends.1 in grind (arith, ints))

pub bounded_limited : (low high : ℤ) (b : Bounds) → bounded low high ≡ Some b → IsLimited b
bounded_limited low high b told = by_test (is_within farthest_bound low && is_within farthest_bound high) refl told
  where
    by_test : (t : Bool) → (is_within farthest_bound low && is_within farthest_bound high) ≡ t → cond t (Some (Number low high)) None ≡ Some b → IsLimited b
    by_test true within told = subst IsLimited (same_Some (Number low high) b told) (ends_limited low high within)
    by_test false within told = absurd (none-some b told)

pub of_range_limited : (f : ℤ → ℤ → Option Bounds) → ((low high : ℤ) (b : Bounds) → f low high ≡ Some b → IsLimited b)
    → (a : AttrAt) (b : Bounds) → of_range f a ≡ Some b → IsLimited b
of_range_limited f limited a b told = by_domain a.domain told
  where
    by_domain : (d : Domain) → elim d [ Range low high ↦ f low high | Words words ↦ None ] ≡ Some b → IsLimited b
    by_domain (Range low high) told = limited low high b told
    by_domain (Words words) told = absurd (none-some b told)

pub difference_limited : (o p : Option Bounds) (b : Bounds) → difference o p ≡ Some b → IsLimited b
difference_limited (Some (Number x y)) (Some (Number z w)) b told = bounded_limited (x -ℤ w) (y -ℤ z) b told
difference_limited (Some (Number x y)) (Some Truth) b told = absurd (none-some b told)
difference_limited (Some (Number x y)) None b told = absurd (none-some b told)
difference_limited (Some Truth) p b told = absurd (none-some b told)
difference_limited None p b told = absurd (none-some b told)

pub multiple_limited : (k : ℤ) (o : Option Bounds) (b : Bounds) → multiple k o ≡ Some b → IsLimited b
multiple_limited k (Some (Number x y)) b told = bounded_limited (int_min (k *ℤ x) (k *ℤ y)) (int_max (k *ℤ x) (k *ℤ y)) b told
multiple_limited k (Some Truth) b told = absurd (none-some b told)
multiple_limited k None b told = absurd (none-some b told)

pub sum_limited : (low high : ℤ) (os : List (Option Bounds)) (b : Bounds) → sum_onto low high os ≡ Some b → IsLimited b
sum_limited low high [] b told = bounded_limited low high b told
sum_limited low high (Some (Number x y) ∷ os) b told = sum_limited (low +ℤ x) (high +ℤ y) os b told
sum_limited low high (Some Truth ∷ os) b told = absurd (none-some b told)
sum_limited low high (None ∷ os) b told = absurd (none-some b told)

-- ---- the parts have bounds

abbrev pub IsTold : Option Bounds → Type 0
IsTold o = (b : Bounds) × (o ≡ Some b)

pub difference_parts : (o p : Option Bounds) (b : Bounds) → difference o p ≡ Some b → IsTold o × IsTold p
difference_parts (Some (Number x y)) (Some (Number z w)) b told = ((Number x y, refl), (Number z w, refl))
difference_parts (Some (Number x y)) (Some Truth) b told = absurd (none-some b told)
difference_parts (Some (Number x y)) None b told = absurd (none-some b told)
difference_parts (Some Truth) p b told = absurd (none-some b told)
difference_parts None p b told = absurd (none-some b told)

pub multiple_part : (k : ℤ) (o : Option Bounds) (b : Bounds) → multiple k o ≡ Some b → IsTold o
multiple_part k (Some x) b told = (x, refl)
multiple_part k None b told = absurd (none-some b told)

pub comparison_parts : (o p : Option Bounds) (b : Bounds) → comparison o p ≡ Some b → IsTold o × IsTold p
comparison_parts (Some (Number x y)) (Some (Number z w)) b told = ((Number x y, refl), (Number z w, refl))
comparison_parts (Some (Number x y)) (Some Truth) b told = absurd (none-some b told)
comparison_parts (Some (Number x y)) None b told = absurd (none-some b told)
comparison_parts (Some Truth) p b told = absurd (none-some b told)
comparison_parts None p b told = absurd (none-some b told)

module _ {X : Type 0} (f : X → Option Bounds) where
  pub sum_parts : (low high : ℤ) (xs : List X) (b : Bounds) → sum_onto low high (map f xs) ≡ Some b → (k : ℕ) (x : X) → slice_get xs k ≡ Some x → IsTold (f x)
  sum_parts low high [] b told k x at = absurd (none-some x at)
  sum_parts low high (y ∷ xs) b told k x at = by_first (f y) refl told k at (λ low' high' more j there. sum_parts low' high' xs b more j x there)
    where
      by_first : (o : Option Bounds) → f y ≡ o → sum_onto low high (o ∷ map f xs) ≡ Some b → (k : ℕ) → slice_get (y ∷ xs) k ≡ Some x
          → ((low' high' : ℤ) → sum_onto low' high' (map f xs) ≡ Some b → (j : ℕ) → slice_get xs j ≡ Some x → IsTold (f x)) → IsTold (f x)
      by_first (Some (Number z w)) is told zero at rest = (Number z w, ap f (sym (same_Some y x at)) ∙ is)
      by_first (Some (Number z w)) is told (suc k) at rest = rest (low +ℤ z) (high +ℤ w) told k at
      by_first (Some Truth) is told k at rest = absurd (none-some b told)
      by_first None is told k at rest = absurd (none-some b told)

  pub truth_parts : (xs : List X) (b : Bounds) → truth_of (map f xs) ≡ Some b → (k : ℕ) (x : X) → slice_get xs k ≡ Some x → IsTold (f x)
  truth_parts [] b told k x at = absurd (none-some x at)
  truth_parts (y ∷ xs) b told k x at = by_first (f y) refl told k at (λ more j there. truth_parts xs b more j x there)
    where
      by_first : (o : Option Bounds) → f y ≡ o → truth_of (o ∷ map f xs) ≡ Some b → (k : ℕ) → slice_get (y ∷ xs) k ≡ Some x
          → (truth_of (map f xs) ≡ Some b → (j : ℕ) → slice_get xs j ≡ Some x → IsTold (f x)) → IsTold (f x)
      by_first (Some Truth) is told zero at rest = (Truth, ap f (sym (same_Some y x at)) ∙ is)
      by_first (Some Truth) is told (suc k) at rest = rest told k at
      by_first (Some (Number z w)) is told k at rest = absurd (none-some b told)
      by_first None is told k at rest = absurd (none-some b told)
