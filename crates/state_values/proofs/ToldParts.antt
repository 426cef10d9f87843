-- Where an expression has bounds, its parts have them too.
use Rattle.std.proofs.Common.{◌≡◌, ℕ, ℤ, zero, suc, ◌+ℤ◌, ◌∙◌, ap, sym, List, [], ◌∷◌, map, Option, Some, None, refl}
use Rattle.std.specs.Prelude.{slice_get}
use Rattle.std.proofs.lemmas.Option.{same_Some, none-some}
use Rattle.prod_model.specs.declared.expr_bounds.Bounds.{Bounds}
use Rattle.prod_model.specs.declared.expr_bounds.Bounds.TheVariants.{Number, Truth}
use Rattle.prod_model.specs.ExprBounds.{difference, multiple, comparison, truth_of}
use Rattle.prod_model.specs.steps.ExprBounds.{sum_onto}

-- it has bounds
abbrev pub IsTold : Option Bounds → Type 0
IsTold o = (b : Bounds) × (o ≡ Some b)

pub difference_parts : (o p : Option Bounds) (b : Bounds) → difference o p ≡ Some b → IsTold o × IsTold p
difference_parts (Some (Number x y)) (Some (Number z w)) b told = ((Number x y, refl), (Number z w, refl))
difference_parts (Some (Number x y)) (Some Truth) b told = absurd (none-some b told)
difference_parts (Some (Number x y)) None b told = absurd (none-some b told)
difference_parts (Some Truth) p b told = absurd (none-some b told)
difference_parts None p b told = absurd (none-some b told)

pub multiple_part : (k : ℤ) (o : Option Bounds) (b : Bounds) → multiple k o ≡ Some b → IsTold o
multiple_part k (Some x) b told = (x, refl)
multiple_part k None b told = absurd (none-some b told)

pub comparison_parts : (o p : Option Bounds) (b : Bounds) → comparison o p ≡ Some b → IsTold o × IsTold p
comparison_parts (Some (Number x y)) (Some (Number z w)) b told = ((Number x y, refl), (Number z w, refl))
comparison_parts (Some (Number x y)) (Some Truth) b told = absurd (none-some b told)
comparison_parts (Some (Number x y)) None b told = absurd (none-some b told)
comparison_parts (Some Truth) p b told = absurd (none-some b told)
comparison_parts None p b told = absurd (none-some b told)

module _ {X : Type 0} (f : X → Option Bounds) where
  pub sum_parts : (low high : ℤ) (xs : List X) (b : Bounds) → sum_onto low high (map f xs) ≡ Some b → (k : ℕ) (x : X) → slice_get xs k ≡ Some x → IsTold (f x)
  sum_parts low high [] b told k x at = absurd (none-some x at)
  sum_parts low high (y ∷ xs) b told k x at = by_first (f y) refl told k at (λ low' high' more j there. sum_parts low' high' xs b more j x there)
    where
      by_first : (o : Option Bounds) → f y ≡ o → sum_onto low high (o ∷ map f xs) ≡ Some b → (k : ℕ) → slice_get (y ∷ xs) k ≡ Some x
          → ((low' high' : ℤ) → sum_onto low' high' (map f xs) ≡ Some b → (j : ℕ) → slice_get xs j ≡ Some x → IsTold (f x)) → IsTold (f x)
      by_first (Some (Number z w)) is told zero at rest = (Number z w, ap f (sym (same_Some y x at)) ∙ is)
      by_first (Some (Number z w)) is told (suc k) at rest = rest (low +ℤ z) (high +ℤ w) told k at
      by_first (Some Truth) is told k at rest = absurd (none-some b told)
      by_first None is told k at rest = absurd (none-some b told)

  pub truth_parts : (xs : List X) (b : Bounds) → truth_of (map f xs) ≡ Some b → (k : ℕ) (x : X) → slice_get xs k ≡ Some x → IsTold (f x)
  truth_parts [] b told k x at = absurd (none-some x at)
  truth_parts (y ∷ xs) b told k x at = by_first (f y) refl told k at (λ more j there. truth_parts xs b more j x there)
    where
      by_first : (o : Option Bounds) → f y ≡ o → truth_of (o ∷ map f xs) ≡ Some b → (k : ℕ) → slice_get (y ∷ xs) k ≡ Some x
          → (truth_of (map f xs) ≡ Some b → (j : ℕ) → slice_get xs j ≡ Some x → IsTold (f x)) → IsTold (f x)
      by_first (Some Truth) is told zero at rest = (Truth, ap f (sym (same_Some y x at)) ∙ is)
      by_first (Some Truth) is told (suc k) at rest = rest told k at
      by_first (Some (Number z w)) is told k at rest = absurd (none-some b told)
      by_first None is told k at rest = absurd (none-some b told)
