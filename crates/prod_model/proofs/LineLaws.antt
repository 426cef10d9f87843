-- In a forest a type's line is the type, and then its parent's line: inductions along lines, and what `is_a` is.
use Rattle.std.proofs.Common.{◌≡◌, ℕ, zero, suc, ◌≤◌, false, ◌==◌, List, [], ◌∷◌, length, Option, Some, None, refl, sym, ap, ◌∙◌, inl, inr, ◌⊎◌, eqb-true, arith, le_refl}
use Rattle.std.specs.Prelude.{slice_get, IsTrue}
use Rattle.std.specs.Option.{option_map_or}
use Rattle.std.specs.List.{list_any}
use Rattle.std.proofs.lemmas.Bool.{false≢true, or_cases, or_right}
use Rattle.prod_model.specs.declared.model.Model.{Model}
use Rattle.prod_model.specs.declared.model.TypeDecl.{TypeDecl}
use Rattle.prod_model.specs.Forest.{line_within, line, is_a, is_forest}
use Rattle.prod_model.proofs.ForestLines.{HasNoCycle, HasParent, line_stays, line_parent, no_cycle}

-- what a type's line is: nothing, the type alone, or the type and then its parent's line
pub data LineOf (types : List TypeDecl) (t : ℕ) : Type 0 where
  -- where it is no type
  no_type : line types t ≡ [] → LineOf types t
  -- where it has no parent
  alone : line types t ≡ t ∷ [] → LineOf types t
  -- where it has one
  below : (p : ℕ) → HasParent types t p → line types t ≡ t ∷ line types p → LineOf types t

module _ (types : List TypeDecl) where
  -- each type's line is one of these
  pub line_of : HasNoCycle types → (t : ℕ) → LineOf types t
  line_of forest t = by_type (slice_get types t) refl
    where
      from_type : Option TypeDecl → List ℕ
      from_type o = option_map_or (λ d. t ∷ option_map_or (line_within (length types) types) d.parent []) o []

      by_parent : (d : TypeDecl) → slice_get types t ≡ Some d → (o : Option ℕ) → d.parent ≡ o → LineOf types t
      by_parent d stands None none = alone (ap from_type stands ∙ ap (λ o. t ∷ option_map_or (line_within (length types) types) o []) none)
      by_parent d stands (Some p) parent =
          below p (record { decl = d; stands = stands; parent = parent })
          (ap from_type stands ∙ ap (λ o. t ∷ option_map_or (line_within (length types) types) o []) parent ∙ ap (λ us. t ∷ us) (line_stays types forest p))

      by_type : (o : Option TypeDecl) → slice_get types t ≡ o → LineOf types t
      by_type None none = no_type (ap from_type none)
      by_type (Some d) stands = by_parent d stands d.parent refl

  -- what holds of a type where it holds of the type's parent, holds of each type
  pub along_lines : HasNoCycle types → (P : ℕ → Type 0) → ((t : ℕ) → ((p : ℕ) → HasParent types t p → P p) → P t) → (t : ℕ) → P t
  along_lines forest P step t = within (length (line types t)) t (le_refl _)
    where
      within : (n t : ℕ) → length (line types t) ≤ n → P t
      within zero t short = step t (λ p above. absurd (omega (arith, ap length (line_parent types forest t p above))))
      within (suc n) t short = step t (λ p above. within n p (omega (arith, ap length (line_parent types forest t p above))))

-- a type that is under another is it, or its parent is under it
pub is_a_cases : (m : Model) → IsTrue (is_forest m) → (t u : ℕ) → IsTrue (is_a m t u)
    → (t ≡ u) ⊎ ((p : ℕ) × HasParent m.types t p × IsTrue (is_a m p u))
unfolding is_a
is_a_cases m forest t u under = elim (line_of m.types (no_cycle m forest) t) [
  | no_type is ↦ absurd (false≢true (sym (ap (list_any (λ v. v == u)) is) ∙ under))
  | alone is ↦ elim (or_cases (t == u) false (sym (ap (list_any (λ v. v == u)) is) ∙ under)) [ inl first ↦ inl (eqb-true t u first) | inr more ↦ absurd (false≢true more) ]
  | below p above is ↦ elim (or_cases (t == u) (list_any (λ v. v == u) (line m.types p)) (sym (ap (list_any (λ v. v == u)) is) ∙ under)) [
    | inl first ↦ inl (eqb-true t u first)
    | inr more ↦ inr (p, above, more)
  ]
]

-- a type is under what its parent is under
pub is_a_above : (m : Model) → IsTrue (is_forest m) → (t p u : ℕ) → HasParent m.types t p → IsTrue (is_a m p u) → IsTrue (is_a m t u)
unfolding is_a
is_a_above m forest t p u above under =
    ap (list_any (λ v. v == u)) (line_parent m.types (no_cycle m forest) t p above) ∙ or_right _ _ under

-- what is under a type is under what that type is under
pub is_a_trans : (m : Model) → IsTrue (is_forest m) → (t u v : ℕ) → IsTrue (is_a m t u) → IsTrue (is_a m u v) → IsTrue (is_a m t v)
is_a_trans m forest t u v first second = along_lines m.types (no_cycle m forest) (λ t. IsTrue (is_a m t u) → IsTrue (is_a m t v)) (λ t each under.
    elim (is_a_cases m forest t u under) [
      | inl same ↦ ap (λ k. is_a m k v) same ∙ second
      | inr more ↦ is_a_above m forest t more.0 v more.1 (each more.0 more.1 more.2)
    ]) t first
