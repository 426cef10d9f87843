-- Intervals cut to a range.
use Rattle.std.specs.Prelude.{int_le, Bool, ◌&&◌, List, [], ◌∷◌, if◌then◌else◌}
use Rattle.domain_store.specs.declared.interval.Interval.{Interval}

-- a number lies in the interval
abbrev pub is_some : Interval → Bool
is_some r = int_le r.low r.high

-- the ends of the interval lie in the range
abbrev pub is_part : Interval → Interval → Bool
is_part range r = int_le range.low r.low && int_le r.high range.high

-- what the interval has in common with the range: its ends cross where that is nothing
abbrev pub common : Interval → Interval → Interval
common range r = record {
  low = if int_le r.low range.low then range.low else r.low;
  high = if int_le r.high range.high then r.high else range.high;
}

-- what the intervals have in common with the range
abbrev pub cut : Interval → List Interval → List Interval
cut range [] = []
cut range (r ∷ rs) =
    if is_some (common range r) then common range r ∷ cut range rs else cut range rs
