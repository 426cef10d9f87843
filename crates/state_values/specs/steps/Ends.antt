-- The two ends of a number, without what shows them.
use Rattle.std.specs.Prelude.{ℤ, pos, negsuc, neg_ℤ, ◌*ℤ◌, ◌≤ℤ◌}
use Rattle.std.specs.Int.{int_min, int_max}
use Rattle.prod_model.specs.Limits.{farthest_bound}
use Rattle.state_values.specs.declared.interval.Interval.{Interval}
use Rattle.state_values.specs.declared.interval.Ends.{Ends}
use Rattle.state_values.specs.Ranges.{Range}

-- the two numbers of a range
abbrev pub ends_of : Range → Ends
ends_of r = record { low = r.low.number; high = r.high.number }

-- each end is brought to the nearest number within bounds
abbrev pub clamped_ends : Interval → Ends → Interval
clamped_ends own e = record {
  low = int_max own.low (int_min own.high e.low);
  high = int_min own.high (int_max own.low e.high);
}

-- the least and the greatest of the multiples of both ends
abbrev pub multiple_bounds : ℤ → Interval → Ends
multiple_bounds k a = record {
  low = int_min (k *ℤ a.low) (k *ℤ a.high);
  high = int_max (k *ℤ a.low) (k *ℤ a.high);
}

-- the multiples of both ends, which a factor below 0 turns round
abbrev pub multiple_ends : ℤ → Interval → Ends
multiple_ends (pos k) a = record { low = pos k *ℤ a.low; high = pos k *ℤ a.high }
multiple_ends (negsuc k) a = record { low = negsuc k *ℤ a.high; high = negsuc k *ℤ a.low }

-- both ends are no farther from 0 than a bound of an expression may be
pub record AreLimited (e : Ends) : Type 0 where
  pub low_above : neg_ℤ farthest_bound ≤ℤ e.low
  pub low_below : e.low ≤ℤ farthest_bound
  pub high_above : neg_ℤ farthest_bound ≤ℤ e.high
  pub high_below : e.high ≤ℤ farthest_bound
