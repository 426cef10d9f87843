-- In a forest two types that a type is under are one above the other.
use Rattle.std.proofs.Common.{◌≡◌, ℕ, List, ◌⊎◌, inl, inr, subst, sym, ap, ◌∙◌}
use Rattle.std.specs.Prelude.{IsTrue}
use Rattle.std.proofs.lemmas.Option.{same_Some}
use Rattle.prod_model.specs.declared.model.Model.{Model}
use Rattle.prod_model.specs.declared.model.TypeDecl.{TypeDecl}
use Rattle.prod_model.specs.Forest.{is_a, is_forest}
use Rattle.prod_model.proofs.ForestLines.{HasParent, no_cycle}
use Rattle.prod_model.proofs.LineLaws.{along_lines, is_a_cases}

-- a type has one parent
one_parent : (types : List TypeDecl) (t p q : ℕ) → HasParent types t p → HasParent types t q → p ≡ q
one_parent types t p q first second =
    same_Some p q (sym first.parent ∙ ap (λ d. d.parent) (same_Some first.decl second.decl (sym first.stands ∙ second.stands)) ∙ second.parent)

-- one of the types is the other or under it
abbrev pub OneAbove : Model → ℕ → ℕ → Type 0
OneAbove m u v = IsTrue (is_a m u v) ⊎ IsTrue (is_a m v u)

pub one_above : (m : Model) → IsTrue (is_forest m) → (t u v : ℕ) → IsTrue (is_a m t u) → IsTrue (is_a m t v) → OneAbove m u v
one_above m forest t u v = along_lines m.types (no_cycle m forest) (λ t. IsTrue (is_a m t u) → IsTrue (is_a m t v) → OneAbove m u v) step t
  where
    step : (t : ℕ) → ((p : ℕ) → HasParent m.types t p → IsTrue (is_a m p u) → IsTrue (is_a m p v) → OneAbove m u v)
        → IsTrue (is_a m t u) → IsTrue (is_a m t v) → OneAbove m u v
    step t each first second = elim (is_a_cases m forest t u first) [
      | inl same ↦ inl (subst (λ k. IsTrue (is_a m k v)) same second)
      | inr more ↦ elim (is_a_cases m forest t v second) [
        | inl same ↦ inr (subst (λ k. IsTrue (is_a m k u)) same first)
        | inr other ↦ each more.0 more.1 more.2 (subst (λ k. IsTrue (is_a m k v)) (one_parent m.types t other.0 more.0 other.1 more.1) other.2)
      ]
    ]
