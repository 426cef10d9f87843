-- Sets of instances, whose numbers are below 256.
use Rattle.std.specs.Prelude.{◌≡◌, ℕ, ◌<◌, ◌≤◌, ◌/◌, ◌%◌, ◌==◌, ◌&&◌, Bool, nat_lt, IsTrue, List, Some, None, if◌then◌else◌}
use Rattle.std.specs.declared.option.Option.{Option}
use Rattle.std.specs.Int.{bit_at}
use Rattle.std.specs.List.{filter, range_with_len}
use Rattle.instance_set.specs.declared.set.InstanceSet.{InstanceSet}

-- the words of a set: the first one has the bits of instances 0 to 63, and so on
abbrev pub word_of : InstanceSet → ℕ → ℕ
word_of s k = if k == 0 then s.w0 else (if k == 1 then s.w1 else (if k == 2 then s.w2 else s.w3))

-- instance j is a member
abbrev pub is_member : InstanceSet → ℕ → Bool
is_member s j = nat_lt j 256 && (bit_at (word_of s (j / 64)) (j % 64) == 1)

-- the members, ascending
abbrev pub members : InstanceSet → List ℕ
members s = filter (is_member s) (range_with_len 0 256)

-- each member of the first set is one of the second
abbrev pub IsWithin : InstanceSet → InstanceSet → Type 0
IsWithin s t = (j : ℕ) → IsTrue (is_member s j) → IsTrue (is_member t j)

-- the least member from a number on, and nothing where there is none
abbrev pub IsLeastFrom : InstanceSet → ℕ → Option ℕ → Type 0
IsLeastFrom s from None = (j : ℕ) → from ≤ j → ¬ IsTrue (is_member s j)
IsLeastFrom s from (Some j) =
    (from ≤ j) × IsTrue (is_member s j)
    × ((i : ℕ) → from ≤ i → i < j → ¬ IsTrue (is_member s i))
