-- A valid model has a leaf type.
use Rattle.std.proofs.Common.{◌≡◌, ℕ, zero, suc, ◌+◌, ◌<◌, ◌≤◌, Bool, true, false, not, ◌==◌, List, [], ◌∷◌, length, Option, Some, None, refl, sym, ap, arith}
use Rattle.std.specs.Prelude.{IsTrue, slice_get}
use Rattle.std.specs.Option.{option_map_or}
use Rattle.std.specs.List.{list_all}
use Rattle.std.proofs.lemmas.Bool.{false≢true}
use Rattle.std.proofs.lemmas.Bool.Decides.{nat_tests}
use Rattle.prod_model.specs.declared.model.Model.{Model}
use Rattle.prod_model.specs.declared.model.TypeDecl.{TypeDecl}
use Rattle.prod_model.specs.Forest.{line, is_leaf}
use Rattle.prod_model.specs.Valid.{IsValid, has_known_types}
use Rattle.prod_model.proofs.ForestLines.{HasNoCycle, HasParent, no_cycle, line_short, line_parent}

-- a leaf type
pub record HasLeaf (m : Model) : Type 0 where
  pub kind : ℕ
  pub leaf : IsTrue (is_leaf m kind)

abbrev has_parent : ℕ → TypeDecl → Bool
has_parent t d = option_map_or (λ p. p == t) d.parent false

-- a type whose parent is t
record HasChild (types : List TypeDecl) (t : ℕ) : Type 0 where
  child : ℕ
  is : HasParent types child t

parent_is : (t : ℕ) (o : Option ℕ) → option_map_or (λ p. p == t) o false ≡ true → o ≡ Some t
parent_is t None has = absurd (false≢true has)
parent_is t (Some p) has = let e : p ≡ t = grind (arith, nat_tests) in ap Some e

child_later : (d : TypeDecl) (types : List TypeDecl) (t : ℕ) → HasChild types t → HasChild (d ∷ types) t
child_later d types t has = record { child = suc has.child; is = record { decl = has.is.decl; stands = has.is.stands; parent = has.is.parent } }

some_child : (types : List TypeDecl) (t : ℕ) → list_all (λ d. not (has_parent t d)) types ≡ false → HasChild types t
some_child [] t none = absurd (false≢true (sym none))
some_child (d ∷ types) t none = by_test (has_parent t d) refl (λ rest. some_child types t rest)
  where
    by_test : (b : Bool) → has_parent t d ≡ b → (list_all (λ e. not (has_parent t e)) types ≡ false → HasChild types t) → HasChild (d ∷ types) t
    by_test true is later = record { child = zero; is = record { decl = d; stands = refl; parent = parent_is t d.parent is } }
    by_test false is later = child_later d types t (later (grind (arith)))

child_within : (types : List TypeDecl) (k : ℕ) (d : TypeDecl) → slice_get types k ≡ Some d → k < length types
child_within [] k d at = absurd (cc)
child_within (e ∷ types) zero d at = omega arith
child_within (e ∷ types) (suc k) d at = let rest = child_within types k d at in omega arith

is_leaf_with : (m : Model) (t : ℕ) → t < length m.types → list_all (λ d. not (has_parent t d)) m.types ≡ true → IsTrue (is_leaf m t)
unfolding is_leaf
is_leaf_with m t within none = grind (arith, nat_tests)

-- a leaf, or a type with a longer line
leaf_or : (m : Model) (t : ℕ) → t < length m.types → (b : Bool) → list_all (λ d. not (has_parent t d)) m.types ≡ b → (HasChild m.types t → HasLeaf m) → HasLeaf m
leaf_or m t within true none longer = record { kind = t; leaf = is_leaf_with m t within none }
leaf_or m t within false none longer = longer (some_child m.types t none)

-- going down from a type ends in a leaf, since no line has more members than there are types
leaf_below : (m : Model) → HasNoCycle m.types → (room t : ℕ) → t < length m.types → length m.types ≤ length (line m.types t) + room → HasLeaf m
leaf_below m forest zero t within long =
    leaf_or m t within (list_all (λ d. not (has_parent t d)) m.types) refl (λ has.
    let longer = ap length (line_parent m.types forest has.child t has.is) in let short = line_short m.types forest has.child in absurd (omega arith))
leaf_below m forest (suc room) t within long =
    leaf_or m t within (list_all (λ d. not (has_parent t d)) m.types) refl (λ has.
    let longer = ap length (line_parent m.types forest has.child t has.is) in
    leaf_below m forest room has.child (child_within m.types has.child has.is.decl has.is.stands) (omega arith))

root_within : (m : Model) → IsValid m → m.root < length m.types
unfolding has_known_types
root_within m valid = let known : IsTrue (has_known_types m) = valid.declared.known_types in grind (arith, nat_tests)

pub leaf_of : (m : Model) → IsValid m → HasLeaf m
leaf_of m valid = leaf_below m (no_cycle m valid.declared.taxonomy.forest) (length m.types) m.root (root_within m valid) (omega arith)
