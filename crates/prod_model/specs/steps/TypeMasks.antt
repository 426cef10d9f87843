-- How the masks of types are made, bit by bit.
use Rattle.std.specs.Prelude.{◌≡◌, ℕ, Bool, true, false, not, ◌&&◌, ◌==◌, nat_lt, List, slice_index, if◌then◌else◌}
use Rattle.std.specs.Int.{bit_at}
use Rattle.std.specs.List.{list_any, list_all}
use Rattle.std.specs.Option.{option_map_or}
use Rattle.prod_model.specs.declared.model.TypeDecl.{TypeDecl}

-- a number is one of those on a line of the forest
abbrev pub is_on : List ℕ → ℕ → Bool
is_on line u = list_any (λ v. v == u) line

-- no type has t as its parent
abbrev pub has_no_child : List TypeDecl → ℕ → Bool
has_no_child types t = list_all (λ d. not (option_map_or (λ p. p == t) d.parent false)) types

-- each parent is a number that a mask of 128 bits has
abbrev pub has_small_parents : List TypeDecl → Bool
has_small_parents types = list_all (λ d. option_map_or (λ p. nat_lt p 128) d.parent true) types

-- bit t is set in the masks whose place has the test, and all other bits stay
abbrev pub SetsBit : ℕ → (ℕ → Bool) → List ℕ → List ℕ → Type 0
SetsBit t test old new =
    (k u : ℕ) → bit_at (slice_index new u) k
    ≡ (if (k == t) && test u then 1 else bit_at (slice_index old u) k)
