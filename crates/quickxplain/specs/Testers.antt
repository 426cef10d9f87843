-- A test of sets of requests, and its preferred conflict (Junker 2004). A set of requests is a
-- truth for each of them. What makes a set consistent is a proposition, which nothing need compute.
use Rattle.std.specs.Prelude.{◌≡◌, ◌↔◌, ℕ, ◌+◌, Bool, true, false, List, [], ◌∷◌, length, slice_get, Some}
use Rattle.config_value.specs.Conflict.{IsAntilexSmaller}
use Rattle.prod_model.specs.First.{IsFirst}

-- the same sets are consistent by both tests
abbrev pub IsSameTest : (List Bool → Type 0) → (List Bool → Type 0) → Type 0
IsSameTest f g = (keep : List Bool) → f keep ↔ g keep

-- all requests of the first set are in the second one
pub record IsPart (part whole : List Bool) : Type 0 where
  pub each_request : length part ≡ length whole
  pub within : (request : ℕ) → slice_get part request ≡ Some true
      → slice_get whole request ≡ Some true

-- a part of a consistent set is consistent
abbrev pub IsClosedUnderParts : (List Bool → Type 0) → Type 0
IsClosedUnderParts consistent =
    (part whole : List Bool) → IsPart part whole → consistent whole → consistent part

-- a set of the n requests that isn't consistent
pub record IsConflictOf (consistent : List Bool → Type 0) (n : ℕ) (keep : List Bool)
    : Type 0 where
  pub each_request : length keep ≡ n
  pub inconsistent : ¬ consistent keep

-- the conflict than which none is antilex-smaller
abbrev pub IsPreferredConflictOf : (List Bool → Type 0) → ℕ → List Bool → Type 0
IsPreferredConflictOf consistent n = IsFirst (IsConflictOf consistent n) IsAntilexSmaller

-- the places of the requests that a set keeps, ascending, counted from a first place on
abbrev pub places_kept : ℕ → List Bool → List ℕ
places_kept from [] = []
places_kept from (true ∷ keep) = from ∷ places_kept (from + 1) keep
places_kept from (false ∷ keep) = places_kept (from + 1) keep
