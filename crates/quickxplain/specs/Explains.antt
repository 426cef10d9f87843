-- What the explanation of a test says, and how often it may ask.
use Rattle.std.specs.Prelude.{◌≡◌, ℕ, ◌+◌, ◌*◌, ◌^◌, ◌≤◌, Bool, true, List, length, replicate}
use Rattle.quickxplain.specs.declared.explaining.Explained.{Explained}
use Rattle.quickxplain.specs.declared.explaining.Explained.TheVariants.{NoConflict, Conflict}
use Rattle.quickxplain.specs.Testers.{IsPreferredConflictOf, places_kept}

-- the set of all n requests
abbrev pub all_of : ℕ → List Bool
all_of n = replicate n true

-- the places, ascending, of the requests of the preferred conflict
pub record ArePlacesOfPreferred (consistent : List Bool → Type 0) (n : ℕ) (members : List ℕ)
    : Type 0 where
  pub keep : List Bool
  pub preferred : IsPreferredConflictOf consistent n keep
  pub places : members ≡ places_kept 0 keep

-- All requests are consistent; or they are not, and these are the places of the preferred conflict.
abbrev pub Explains : (List Bool → Type 0) → ℕ → Explained → Type 0
Explains consistent n NoConflict = consistent (all_of n)
Explains consistent n (Conflict members) =
    (¬ consistent (all_of n)) × ArePlacesOfPreferred consistent n members.items

-- how many requests are in the conflict
abbrev pub size_of : Explained → ℕ
size_of NoConflict = 0
size_of (Conflict members) = length members.items

-- With k requests in the conflict, and 2 to the power l at least n, there are at most 2 k l + 3
-- questions.
abbrev pub AsksAtMost : ℕ → ℕ → ℕ → Explained → Type 0
AsksAtMost before after n e = (l : ℕ) → n ≤ 2 ^ l → after ≤ before + 2 * size_of e * l + 3
