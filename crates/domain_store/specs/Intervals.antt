-- Sets of whole numbers as ascending lists of intervals.
use Rattle.std.specs.Prelude.{ℤ, pos, ◌≤ℤ◌, ◌+ℤ◌, int_le, int_lt, Bool, true, false, not, ◌&&◌, IsTrue, List, [], ◌∷◌}
use Rattle.std.specs.Ordering.{int_eq}
use Rattle.std.specs.List.{list_any, list_all}
use Rattle.domain_store.specs.declared.change.Change.{Change}
use Rattle.domain_store.specs.declared.interval.Interval.{Interval}
use Rattle.domain_store.specs.Narrowing.{Narrows}

-- the number lies in the interval
abbrev pub is_inside : Interval → ℤ → Bool
is_inside r v = int_le r.low v && int_le v r.high

-- the number lies in one of the intervals
abbrev pub is_in_one : List Interval → ℤ → Bool
is_in_one rs v = list_any (λ r. is_inside r v) rs

-- the second interval is above the first, and a number between them lies in neither
abbrev pub is_apart : Interval → Interval → Bool
is_apart r s = int_lt (r.high +ℤ pos 1) s.low

-- each interval has a number, and is above and apart from all before it
abbrev pub ascend_apart : List Interval → Bool
ascend_apart [] = true
ascend_apart (r ∷ rs) = int_le r.low r.high && list_all (is_apart r) rs && ascend_apart rs

-- there is such an interval, and all are so
abbrev pub are_intervals : List Interval → Bool
are_intervals [] = false
are_intervals (r ∷ rs) = ascend_apart (r ∷ rs)

-- the least number of the set
abbrev pub IsLeastNumber : List Interval → ℤ → Type 0
IsLeastNumber rs v = IsTrue (is_in_one rs v) × ((u : ℤ) → IsTrue (is_in_one rs u) → v ≤ℤ u)

-- the greatest number of the set
abbrev pub IsGreatestNumber : List Interval → ℤ → Type 0
IsGreatestNumber rs v = IsTrue (is_in_one rs v) × ((u : ℤ) → IsTrue (is_in_one rs u) → u ≤ℤ v)

-- a number other than n
abbrev pub is_other : ℤ → ℤ → Bool
is_other n v = not (int_eq v n)

-- a narrowing of a set of numbers
abbrev pub NarrowsNumbers : (ℤ → Bool) → Change → List Interval → List Interval → Type 0
NarrowsNumbers = Narrows is_in_one
