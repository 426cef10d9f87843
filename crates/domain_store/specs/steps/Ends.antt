-- The ends of an ascending list of intervals.
use Rattle.std.specs.Prelude.{ℤ, pos, List, [], ◌∷◌}
use Rattle.domain_store.specs.declared.interval.Interval.{Interval}

-- the lower end of the first interval, and 0 where there is none
abbrev pub low_of : List Interval → ℤ
low_of [] = pos 0
low_of (r ∷ rs) = r.low

-- the upper end of the last interval, and 0 where there is none
abbrev pub high_of : List Interval → ℤ
high_of [] = pos 0
high_of (r ∷ []) = r.high
high_of (r ∷ s ∷ rs) = high_of (s ∷ rs)
