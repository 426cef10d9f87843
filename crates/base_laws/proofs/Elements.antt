-- What a list contains: one of an element, an empty one, and lists that are joined.
use Rattle.std.proofs.Common.{◌≡◌, ℕ, zero, suc, ◌∙◌, refl, sym, ap, Some, subst, List, [], ◌∷◌, flat_map, Contains, inl, inr, arith}
use Rattle.std.proofs.lemmas.List.Elements.{Contains-append_left, Contains-append_right, Contains-append_cases}
use Rattle.std.proofs.lemmas.Option.{slice_get_within, slice_get-get_or, get_or_from_slice_get}
use Rattle.base_laws.specs.Places.{IsAt}

-- what stands at a place is contained
pub contained_at : {X : Type 0} (xs : List X) (k : ℕ) (x : X) → IsAt xs k x → Contains xs x
contained_at xs k x at = (k, slice_get_within xs k x at, get_or_from_slice_get xs k x x at)

-- what is contained stands at a place
pub at_contained : {X : Type 0} (xs : List X) (x : X) (among : Contains xs x) → IsAt xs among.0 x
at_contained xs x among = slice_get-get_or xs among.0 x among.1 ∙ ap (λ y. Some y) among.2

pub none_contained : {X : Type 0} (y : X) → ¬ Contains [] y
none_contained y among = omega (arith, among.1)

pub one_contained : {X : Type 0} (x y : X) → Contains (x ∷ []) y → x ≡ y
one_contained x y (zero, within, is) = is
one_contained x y (suc k, within, is) = absurd (omega arith)

-- what the list of an element contains, all lists together contain
pub contains_flat : {X Y : Type 0} (f : X → List Y) (xs : List X) (x : X) (y : Y) → Contains xs x → Contains (f x) y → Contains (flat_map f xs) y
contains_flat f [] x y among here = absurd (none_contained x among)
contains_flat f (z ∷ xs) x y (zero, within, is) here =
    let Has : List _ → Type 0 = λ ys. Contains ys y in Contains-append_left (f z) (flat_map f xs) y (subst Has (ap f (sym is)) here)
contains_flat f (z ∷ xs) x y (suc i, within, is) here = Contains-append_right (f z) (flat_map f xs) y (contains_flat f xs x y (i, omega arith, is) here)

-- what all lists together contain, that of some element contains
pub flat_contained : {X Y : Type 0} (f : X → List Y) (xs : List X) (y : Y) → Contains (flat_map f xs) y → (x : X) × (Contains xs x) × (Contains (f x) y)
flat_contained f [] y among = absurd (none_contained y among)
flat_contained f (z ∷ xs) y among = elim (Contains-append_cases (f z) (flat_map f xs) y among) [
  | inl here ↦ (z, (0, omega arith, refl), here)
  | inr rest ↦ (let found = flat_contained f xs y rest in (found.0, (suc found.1.0, omega (arith, found.1.1), found.1.2), found.2))
]
