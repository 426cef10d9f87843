-- In a forest a type's line ends: it is the type and then its parent's line.
use Rattle.std.proofs.Common.{◌≡◌, ℕ, zero, suc, ◌<◌, ◌≤◌, Bool, true, false, not, nat_eq, ◌==◌, List, [], ◌∷◌, length, take, drop, Option, Some, None, refl, sym, ap, ◌∙◌, inl, inr, zero-add, arith}
use Rattle.std.specs.Prelude.{slice_get, IsTrue}
use Rattle.std.specs.Option.{option_map_or}
use Rattle.std.specs.List.{list_any, IsDistinct, AllByRecursion}
use Rattle.std.proofs.lemmas.Bool.{false≢true, not-true}
use Rattle.std.proofs.lemmas.Bool.Decides.{nat_tests}
use Rattle.std.proofs.lemmas.List.{take_all}
use Rattle.std.proofs.lemmas.Map.Steps.{length-le_from_distinct_below}
use Rattle.std.proofs.lemmas.Option.{slice_get_within, slice_get_cases}
use Rattle.prod_model.specs.declared.model.Model.{Model}
use Rattle.prod_model.specs.declared.model.TypeDecl.{TypeDecl}
use Rattle.prod_model.specs.Forest.{line_within, line, ancestors, is_in_circle, is_forest}
use Rattle.base_laws.proofs.Ranges.{list_all_below}

-- no type is its own ancestor
abbrev pub HasNoCycle : List TypeDecl → Type 0
HasNoCycle types = (t : ℕ) → list_any (λ u. u == t) (ancestors types t) ≡ false

-- each member's ancestors are the members after it
abbrev pub IsLine : List TypeDecl → List ℕ → Type 0
IsLine types [] = Unit {0}
IsLine types (u ∷ us) = (ancestors types u ≡ us) × IsLine types us

-- the type of that number has that parent
pub record HasParent (types : List TypeDecl) (t p : ℕ) : Type 0 where
  pub decl : TypeDecl
  pub stands : slice_get types t ≡ Some decl
  pub parent : decl.parent ≡ Some p

-- ---- lines of different lengths

-- one step of a line, where f gives the line of a parent
abbrev from_parent : (ℕ → List ℕ) → Option ℕ → List ℕ
from_parent f parent = option_map_or f parent []

-- and here f gives that of the type's parent
abbrev from_type : ℕ → (ℕ → List ℕ) → Option TypeDecl → List ℕ
from_type t f kind = option_map_or (λ d. t ∷ from_parent f d.parent) kind []

-- where f gives the beginning of each line, it gives that of a parent's line
parent_take : (n : ℕ) (f g : ℕ → List ℕ) → ((u : ℕ) → take n (g u) ≡ f u) → (parent : Option ℕ)
    → take n (from_parent g parent) ≡ from_parent f parent
parent_take zero f g each None = refl
parent_take (suc n) f g each None = refl
parent_take n f g each (Some u) = each u

-- and one step more gives that of a type's line
type_take : (n t : ℕ) (f g : ℕ → List ℕ) → ((u : ℕ) → take n (g u) ≡ f u) → (kind : Option TypeDecl)
    → take (suc n) (from_type t g kind) ≡ from_type t f kind
type_take n t f g each None = refl
type_take n t f g each (Some d) = ap (λ us. t ∷ us) (parent_take n f g each d.parent)

-- what no number of a list passes, no number of its beginning passes
other_take : (p : ℕ → Bool) (n : ℕ) (us : List ℕ) → list_any p us ≡ false → list_any p (take n us) ≡ false
other_take p zero us none = refl
other_take p (suc n) [] none = none
other_take p (suc n) (u ∷ us) none = let rest = other_take p n us in grind (arith)

-- a number that is none of a list differs from each of it
none_equal : (t : ℕ) (us : List ℕ) → list_any (λ u. u == t) us ≡ false
    → AllByRecursion (λ u. nat_eq t u ≡ false) us
none_equal t [] none = tt
none_equal t (u ∷ us) none = (grind (arith, nat_tests), none_equal t us (grind (arith)))

-- what is a line at each type where f and g agree, is one at a parent where they do
parent_line : (types : List TypeDecl) (f g : ℕ → List ℕ) → ((u : ℕ) → f u ≡ g u → IsLine types (f u))
    → (parent : Option ℕ) → from_parent f parent ≡ from_parent g parent → IsLine types (from_parent f parent)
parent_line types f g each None same = tt
parent_line types f g each (Some u) same = each u same

-- and one step further it is one at a type
type_line : (types : List TypeDecl) (t : ℕ) (f g : ℕ → List ℕ) → ((u : ℕ) → f u ≡ g u → IsLine types (f u))
    → (kind : Option TypeDecl) → ancestors types t ≡ drop 1 (from_type t g kind)
    → from_type t f kind ≡ from_type t g kind → IsLine types (from_type t f kind)
type_line types t f g each None above same = tt
type_line types t f g each (Some d) above same =
    (above ∙ sym (ap (drop 1) same), parent_line types f g each d.parent (ap (drop 1) same))

module _ (types : List TypeDecl) where
  -- a line of fewer steps is the beginning of a longer one
  line_within_take : (n all t : ℕ) → n ≤ all → take n (line_within all types t) ≡ line_within n types t
  line_within_take zero all t fewer = refl
  line_within_take (suc n) zero t fewer = absurd (omega arith)
  line_within_take (suc n) (suc all) t fewer =
      type_take n t (line_within n types) (line_within all types)
      (λ u. line_within_take n all u (omega arith)) (slice_get types t)

  -- the members of a line are types
  pub line_within_types : (most t q : ℕ) → list_any (nat_eq q) (line_within most types t) ≡ true
      → q < length types
  line_within_types zero t q here = absurd (false≢true here)
  line_within_types (suc most) t q here = by (slice_get types t) refl here (λ u. line_within_types most u q)
    where
      Among : List ℕ → Type 0
      Among us = list_any (nat_eq q) us ≡ true → q < length types

      by_parent : (o : Option ℕ) → ((u : ℕ) → Among (line_within most types u))
          → Among (from_parent (line_within most types) o)
      by_parent None each here = absurd (false≢true here)
      by_parent (Some u) each here = each u here

      by : (o : Option TypeDecl) → slice_get types t ≡ o
          → list_any (nat_eq q) (from_type t (line_within most types) o) ≡ true
          → ((u : ℕ) → Among (line_within most types u)) → q < length types
      by None is here each = absurd (false≢true here)
      by (Some d) is here each =
          let within = slice_get_within types t d is in
          let rest = by_parent d.parent each in grind (arith, nat_tests)

  -- in a forest no type stands twice in a line
  line_within_distinct : HasNoCycle types → (most t : ℕ) → most ≤ suc (length types)
      → IsDistinct nat_eq (line_within most types t)
  unfolding IsDistinct
  line_within_distinct forest zero t few = tt
  line_within_distinct forest (suc most) t few =
      by (slice_get types t) refl (λ u. line_within_distinct forest most u (omega arith))
    where
      Apart : List ℕ → Type 0
      Apart us = IsDistinct nat_eq us

      by_parent : (o : Option ℕ) → ((u : ℕ) → Apart (line_within most types u))
          → Apart (from_parent (line_within most types) o)
      by_parent None each = tt
      by_parent (Some u) each = each u

      by : (o : Option TypeDecl) → slice_get types t ≡ o → ((u : ℕ) → Apart (line_within most types u))
          → Apart (from_type t (line_within most types) o)
      by None is each = tt
      by (Some d) is each =
          let part = line_within most types in
          let whole = line_within (length types) types in
          let test : ℕ → Bool = λ u. u == t in
          let other : list_any test (from_parent whole d.parent) ≡ false =
          ap (λ o. list_any test (drop 1 (from_type t whole o))) (sym is) ∙ forest t in
          let beginning : take most (from_parent whole d.parent) ≡ from_parent part d.parent =
          parent_take most part whole (λ u. line_within_take most (length types) u (omega arith)) d.parent in (
            none_equal t (from_parent part d.parent)
                (ap (list_any test) (sym beginning) ∙ other_take test most (from_parent whole d.parent) other),
            by_parent d.parent each,
          )

  -- in a forest a line has no more members than there are types
  pub line_short : HasNoCycle types → (t : ℕ) → length (line types t) ≤ length types
  line_short forest t =
      let n = length types in
      length-le_from_distinct_below (line types t) n
      (line_within_distinct forest (suc n) t (omega arith)) (line_within_types (suc n) t)

  -- so it ends after as many steps as there are types
  pub line_stays : HasNoCycle types → (t : ℕ) → line_within (length types) types t ≡ line types t
  line_stays forest t =
      let n = length types in
      sym (line_within_take n (suc n) t (omega arith)) ∙ take_all n (line types t) (line_short forest t)

  line_within_line : HasNoCycle types → (most t : ℕ) → line_within most types t ≡ line types t
      → IsLine types (line_within most types t)
  line_within_line forest zero t whole = tt
  line_within_line forest (suc most) t whole =
      type_line types t (line_within most types) (line_within (length types) types)
      (λ u same. line_within_line forest most u (same ∙ line_stays forest u)) (slice_get types t) refl whole

  -- in a forest the ancestors of each member of a line are the members after it
  pub line_IsLine : HasNoCycle types → (t : ℕ) → IsLine types (line types t)
  line_IsLine forest t = line_within_line forest (suc (length types)) t refl

  -- a type's line is the type and then the line of its parent, if it has one
  pub line_of_parent : HasNoCycle types → (t : ℕ) (d : TypeDecl) → slice_get types t ≡ Some d
      → line types t ≡ t ∷ option_map_or (line types) d.parent []
  line_of_parent forest t d is = rw is (ap (λ us. t ∷ us) (by d.parent))
    where
      by : (o : Option ℕ) → from_parent (line_within (length types) types) o ≡ from_parent (line types) o
      by None = refl
      by (Some p) = line_stays forest p

  -- a type's line goes on with its parent's line
  pub line_parent : HasNoCycle types → (t p : ℕ) → HasParent types t p → line types t ≡ t ∷ line types p
  line_parent forest t p above =
      line_of_parent forest t above.decl above.stands
      ∙ ap (λ o. t ∷ option_map_or (line types) o []) above.parent

-- no type of a forest is its own ancestor
pub no_cycle : (m : Model) → IsTrue (is_forest m) → HasNoCycle m.types
unfolding is_forest
no_cycle m forest t = elim (slice_get_cases m.types t).1 [
  | inl within ↦ not-true (is_in_circle m t)
      (ap (λ k. not (is_in_circle m k)) (sym (zero-add t))
      ∙ list_all_below (λ u. not (is_in_circle m u)) 0 (length m.types) t forest within.1)
  | inr outside ↦
      ap (λ o. list_any (λ u. u == t) (drop 1 (from_type t (line_within (length m.types) m.types) o))) outside.1
]
