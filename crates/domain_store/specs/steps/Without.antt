-- Intervals without a number.
use Rattle.std.specs.Prelude.{ℕ, suc, ℤ, pos, ◌+ℤ◌, ◌-ℤ◌, int_lt, List, [], ◌∷◌, ◌++◌, if◌then◌else◌, take, drop}
use Rattle.domain_store.specs.declared.interval.Interval.{Interval}

-- the part of the interval below the number
abbrev pub below : ℤ → Interval → Interval
below n r = record { low = r.low; high = n -ℤ pos 1 }

-- the part of the interval above the number
abbrev pub above : ℤ → Interval → Interval
above n r = record { low = n +ℤ pos 1; high = r.high }

-- what is left of an interval without one of its numbers
abbrev pub without : ℤ → Interval → List Interval
without n r =
    if int_lt r.low n
    then (if int_lt n r.high then below n r ∷ above n r ∷ [] else below n r ∷ [])
    else (if int_lt n r.high then above n r ∷ [] else [])

-- the intervals with others in place of the one at a place
abbrev pub replaced : List Interval → ℕ → List Interval → List Interval
replaced rs k xs = take k rs ++ (xs ++ drop (suc k) rs)
