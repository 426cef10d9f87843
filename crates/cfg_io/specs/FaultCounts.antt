-- What the kept counts of faults show.
use Rattle.std.specs.Prelude.{ℕ, List, map, string_bytes}
use Rattle.cfg_io.specs.declared.fault_counts.FaultCount.{FaultCount}
use Rattle.cfg_io.specs.declared.fault_counts.FaultCounts.{FaultCounts}

-- a name with its count
abbrev pub shown : FaultCount → List ℕ × ℕ
shown count = (string_bytes count.name, count.times)

-- each name with its count
abbrev pub counts_of : FaultCounts → List (List ℕ × ℕ)
counts_of kept = map shown kept.counts.items
