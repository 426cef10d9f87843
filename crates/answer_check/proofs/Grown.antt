-- States that stand for lists, and lists that are added to them one after another.
use Rattle.std.proofs.Common.{◌≡◌, ℕ, ◌+◌, ◌∙◌, ◌⊎◌, inl, inr, refl, ap, ap₂, sym, subst, List, [], ◌∷◌, ◌++◌, take, Some, append_assoc, append-nil}
use Rattle.std.specs.Prelude.{slice_get}
use Rattle.std.specs.List.{flat_map, zip}
use Rattle.base_laws.proofs.Steps.{flat_map_take_more}

zip_nothing : {X Y : Type 0} (xs : List X) → zip {K = X} {X = Y} xs [] ≡ []
zip_nothing [] = refl
zip_nothing (x ∷ xs) = refl

module _ {S A : Type 0} (Has : S → List A → Type 0) where
  -- after any list that a state stood for, the new one stands for these elements too
  abbrev pub Adds : S → List A → S → Type 0
  Adds s xs t = (before : List A) → Has s before → Has t (before ++ xs)

  pub adds_none : (s : S) → Adds s [] s
  adds_none s before has = subst (Has s) (sym (append-nil before)) has

  pub adds_more : (s t u : S) (xs ys : List A) → Adds s xs t → Adds t ys u → Adds s (xs ++ ys) u
  adds_more s t u xs ys first next before has = subst (Has u) (append_assoc before xs ys) (next (before ++ xs) (first before has))

  -- one element more of a list
  pub has_each : {X : Type 0} (f : X → List A) (xs : List X) (k : ℕ) (x : X) → slice_get xs k ≡ Some x → (s t : S)
      → Has s (flat_map f (take k xs)) → Adds s (f x) t → Has t (flat_map f (take (k + 1) xs))
  has_each f xs k x at s t has next = subst (Has t) (sym (flat_map_take_more f xs k x at)) (next (flat_map f (take k xs)) has)

  -- ---- pairs that are still to come

  module _ {X Y : Type 0} (f : X × Y → List A) (s : S) (xs : List X) (ys : List Y) where
    pub adds_pair : (t : S) (x : X) (y : Y) (xs' : List X) (ys' : List Y) → xs ≡ x ∷ xs' → ys ≡ y ∷ ys' → Adds s (f (x, y)) t
        → (last : S) → Adds t (flat_map f (zip xs' ys')) last → Adds s (flat_map f (zip xs ys)) last
    adds_pair t x y xs' ys' first second next last rest =
        subst (λ ps. Adds s (flat_map f ps) last) (sym (ap₂ zip first second)) (adds_more s t last (f (x, y)) (flat_map f (zip xs' ys')) next rest)

    pub adds_no_pair : (xs ≡ []) ⊎ (ys ≡ []) → Adds s (flat_map f (zip xs ys)) s
    adds_no_pair none = subst (λ ps. Adds s (flat_map f ps) s) (sym (elim none [ inl first ↦ ap (λ zs. zip zs ys) first | inr second ↦ ap (zip xs) second ∙ zip_nothing xs ])) (adds_none s)
