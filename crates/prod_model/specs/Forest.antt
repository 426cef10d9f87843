-- The forest of types.
use Rattle.std.specs.Prelude.{ℕ, zero, suc, Bool, false, not, ◌&&◌, ◌==◌, nat_lt, List, [], ◌∷◌, length, drop, slice_get}
use Rattle.std.specs.declared.option.Option.{Option}
use Rattle.std.specs.Option.{option_map_or, option_and_then}
use Rattle.std.specs.List.{list_any, list_all, range_with_len}
use Rattle.prod_model.specs.declared.model.Model.{Model}
use Rattle.prod_model.specs.declared.model.TypeDecl.{TypeDecl}

-- the number of one of the types, which are counted from 0 in file order
abbrev pub is_type : Model → ℕ → Bool
is_type m t = nat_lt t (length m.types)

-- the numbers of the types
abbrev pub type_numbers : List TypeDecl → List ℕ
type_numbers types = range_with_len 0 (length types)

-- A type, its parent, that one's parent and so on, at most so many of them. It has no members
-- where t is no type.
abbrev pub line_within : ℕ → List TypeDecl → ℕ → List ℕ
line_within zero types t = []
line_within (suc most) types t =
    option_map_or (λ d. t ∷ option_map_or (line_within most types) d.parent [])
    (slice_get types t) []

-- A type and its ancestors. A line of more members than there are types has one of them twice.
abbrev pub line : List TypeDecl → ℕ → List ℕ
line types t = line_within (suc (length types)) types t

-- what is above a type on its line
abbrev pub ancestors : List TypeDecl → ℕ → List ℕ
ancestors types t = drop 1 (line types t)

-- t is u, or u is an ancestor of t
unfoldable pub is_a : Model → ℕ → ℕ → Bool
is_a m t u = list_any (λ v. v == u) (line m.types t)

-- the parent of a type, if it has one, and nothing where t is no type
abbrev pub parent_of : Model → ℕ → Option ℕ
parent_of m t = option_and_then (λ d. d.parent) (slice_get m.types t)

-- a type that no type has as its parent
unfoldable pub is_leaf : Model → ℕ → Bool
is_leaf m t =
    is_type m t && list_all (λ d. not (option_map_or (λ p. p == t) d.parent false)) m.types

-- the type is one of its own ancestors
abbrev pub is_in_circle : Model → ℕ → Bool
is_in_circle m t = list_any (λ u. u == t) (ancestors m.types t)

-- no type is its own ancestor
unfoldable pub is_forest : Model → Bool
is_forest m = list_all (λ t. not (is_in_circle m t)) (type_numbers m.types)
