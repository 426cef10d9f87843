-- Sets of words as masks. Words are numbers from 0 to 63.
use Rattle.std.specs.Prelude.{ℕ, ◌≤◌, ◌==◌, Bool, IsTrue}
use Rattle.std.specs.Int.{bit_at}
use Rattle.domain_store.specs.declared.change.Change.{Change}
use Rattle.domain_store.specs.Narrowing.{Narrows}

-- word k is one of the set: bit k of the mask is set
abbrev pub has_word : ℕ → ℕ → Bool
has_word mask k = bit_at mask k == 1

-- the least word of the set
abbrev pub IsLeastWord : ℕ → ℕ → Type 0
IsLeastWord mask k = IsTrue (has_word mask k) × ((i : ℕ) → IsTrue (has_word mask i) → k ≤ i)

-- the greatest word of the set
abbrev pub IsGreatestWord : ℕ → ℕ → Type 0
IsGreatestWord mask k = IsTrue (has_word mask k) × ((i : ℕ) → IsTrue (has_word mask i) → i ≤ k)

-- a narrowing of a set of words
abbrev pub NarrowsWords : (ℕ → Bool) → Change → ℕ → ℕ → Type 0
NarrowsWords = Narrows has_word
