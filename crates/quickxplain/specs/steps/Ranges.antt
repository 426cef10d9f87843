-- Sets of requests that differ only in a range of places, and the least conflict among them.
use Rattle.std.specs.Prelude.{◌≡◌, ℕ, zero, suc, ◌<◌, ◌≤◌, ◌⊎◌, Bool, true, false, List, [], ◌∷◌, slice_get, Some}
use Rattle.std.specs.List.{count_by}
use Rattle.config_value.specs.Conflict.{IsAntilexSmaller}

-- the same set, but that all requests at the places from .. to are kept, or none of them
unfoldable pub fill : ℕ → ℕ → Bool → List Bool → List Bool
fill from to b [] = []
fill (suc from) (suc to) b (x ∷ xs) = x ∷ fill from to b xs
fill (suc from) zero b (x ∷ xs) = x ∷ xs
fill zero (suc to) b (x ∷ xs) = b ∷ fill zero to b xs
fill zero zero b (x ∷ xs) = x ∷ xs

-- the set without the requests at these places
abbrev pub without : ℕ → ℕ → List Bool → List Bool
without from to x = fill from to false x

-- how many requests a set keeps
abbrev pub kept_count : List Bool → ℕ
kept_count x = count_by (λ b. b) x

-- the two sets keep the same requests at all other places
abbrev pub AgreeOutside : ℕ → ℕ → List Bool → List Bool → Type 0
AgreeOutside from to x y = (k : ℕ) → (k < from) ⊎ (to ≤ k) → slice_get x k ≡ slice_get y k

-- the set keeps every request at these places
abbrev pub KeepsAll : ℕ → ℕ → List Bool → Type 0
KeepsAll from to x = (k : ℕ) → from ≤ k → k < to → slice_get x k ≡ Some true

-- z is x but for these places, isn't consistent, and no such set is antilex-smaller
pub record IsLeastWithin (consistent : List Bool → Type 0) (from to : ℕ) (x z : List Bool)
    : Type 0 where
  pub outside : AgreeOutside from to x z
  pub clash : ¬ consistent z
  pub least : (y : List Bool) → AgreeOutside from to x y → ¬ consistent y
      → ¬ IsAntilexSmaller y z
