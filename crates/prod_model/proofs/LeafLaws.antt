-- Under each type of a forest there is a leaf.
use Rattle.std.proofs.Common.{◌≡◌, ℕ, zero, suc, ◌<◌, ◌≤◌, ◌+◌, Bool, true, false, not, ◌&&◌, ◌==◌, List, [], ◌∷◌, length, Option, Some, None, refl, sym, ap, inl, inr, eqb-true, lt-ltb, arith}
use Rattle.std.specs.Prelude.{IsTrue}
use Rattle.std.specs.Option.{option_map_or}
use Rattle.std.specs.List.{list_any, list_all}
use Rattle.std.proofs.lemmas.Bool.{false≢true, and_from}
use Rattle.std.proofs.lemmas.Bool.Decides.{nat_tests}
use Rattle.std.proofs.lemmas.Option.{slice_get_within, slice_get_cases}
use Rattle.base_laws.specs.Places.{IsAt}
use Rattle.prod_model.specs.declared.model.Model.{Model}
use Rattle.prod_model.specs.declared.model.TypeDecl.{TypeDecl}
use Rattle.prod_model.specs.Forest.{line, is_a, is_leaf, is_forest}
use Rattle.prod_model.proofs.ForestLines.{HasParent, no_cycle, line_short, line_parent, line_of_parent}
use Rattle.prod_model.proofs.LineLaws.{is_a_above}

-- where not all pass, one does not
not_all_at : {A : Type 0} (test : A → Bool) (xs : List A) → list_all test xs ≡ false
    → (k : ℕ) × (x : A) × IsAt xs k x × (test x ≡ false)
not_all_at test [] none = absurd (false≢true (sym none))
not_all_at {A} test (y ∷ ys) none = by (test y) refl none (not_all_at test ys)
  where
    by : (b : Bool) → test y ≡ b → (b && list_all test ys) ≡ false
        → (list_all test ys ≡ false → (k : ℕ) × (x : A) × IsAt ys k x × (test x ≡ false))
        → (k : ℕ) × (x : A) × IsAt (y ∷ ys) k x × (test x ≡ false)
    by true is none more = let later = more none in (suc later.0, later.1, later.2, later.3)
    by false is none more = (0, y, refl, is)

-- a type is under itself
pub is_a_itself : (m : Model) → IsTrue (is_forest m) → (t : ℕ) → t < length m.types → IsTrue (is_a m t t)
unfolding is_a
is_a_itself m forest t within = elim (slice_get_cases m.types t).1 [
  | inl w ↦ (
      let own = line_of_parent m.types (no_cycle m forest) t w.0 w.2 in
      let all = ap (list_any (λ v. v == t)) own in grind (arith, nat_tests))
  | inr w ↦ absurd (omega (arith, w.0))
]

-- whether a type is not the parent of one
abbrev has_other_parent : ℕ → TypeDecl → Bool
has_other_parent u d = not (option_map_or (λ p. p == u) d.parent false)

-- what has not another parent has that one
has_parent : (u : ℕ) (o : Option ℕ) → not (option_map_or (λ p. p == u) o false) ≡ false → o ≡ Some u
has_parent u None none = absurd (false≢true (sym none))
has_parent u (Some p) none = by (p == u) refl none
  where
    by : (b : Bool) → (p == u) ≡ b → not b ≡ false → Some p ≡ Some u
    by true same none = ap Some (eqb-true p u same)
    by false other none = absurd (false≢true (sym none))

module _ (m : Model) (forest : IsTrue (is_forest m)) (t : ℕ) where
  -- a leaf under t
  abbrev LeafUnder : Type 0
  LeafUnder = (u : ℕ) × IsTrue (is_leaf m u) × IsTrue (is_a m u t)

  -- a type that is no leaf has a child
  child : (u : ℕ) → list_all (has_other_parent u) m.types ≡ false → (v : ℕ) × HasParent m.types v u
  child u none =
      let found = not_all_at (has_other_parent u) m.types none in
      (found.0, record { decl = found.1; stands = found.2; parent = has_parent u found.1.parent found.3 })

  -- a type under t is a leaf, or there is one from a child of it
  leaf_or_child : (u : ℕ) → u < length m.types → IsTrue (is_a m u t) → (b : Bool) → list_all (has_other_parent u) m.types ≡ b
      → ((v : ℕ) → HasParent m.types v u → LeafUnder) → LeafUnder
  unfolding is_leaf
  leaf_or_child u type under true all further = (u, and_from _ _ (lt-ltb u (length m.types) type) all, under)
  leaf_or_child u type under false none further = let v = child u none in further v.0 v.1

  -- there is one from a type whose line is shorter than the longest by at most n
  leaf_from : (n u : ℕ) → length m.types ≤ n + length (line m.types u) → u < length m.types → IsTrue (is_a m u t) → LeafUnder
  leaf_from zero u far type under = leaf_or_child u type under (list_all (has_other_parent u) m.types) refl (λ v above.
      let longer = ap length (line_parent m.types (no_cycle m forest) v u above) in
      let short = line_short m.types (no_cycle m forest) v in absurd (omega (arith, longer, short)))
  leaf_from (suc n) u far type under = leaf_or_child u type under (list_all (has_other_parent u) m.types) refl (λ v above.
      let longer = ap length (line_parent m.types (no_cycle m forest) v u above) in
      leaf_from n v (omega (arith, longer)) (slice_get_within m.types v above.decl above.stands) (is_a_above m forest v u t above under))

-- Under each type there is a leaf.
pub leaf_under : (m : Model) → IsTrue (is_forest m) → (t : ℕ) → t < length m.types
    → (u : ℕ) × IsTrue (is_leaf m u) × IsTrue (is_a m u t)
leaf_under m forest t within = leaf_from m forest t (length m.types) t (omega arith) within (is_a_itself m forest t within)
