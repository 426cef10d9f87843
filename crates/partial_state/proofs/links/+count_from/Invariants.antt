use Rattle.std.proofs.Common.{◌-◌}
use Rattle.partial_state.proofs.links.+count_from.Given as goal

-- fewer numbers are left
abbrev pub decreases-count_from : goal.decreases-count_from
decreases-count_from l = 256 - l.from
