use Rattle.std.proofs.Common.{◌-◌}
use Rattle.state_values.proofs.LinkableLaws.{HasLinked}
use Rattle.state_values.proofs.links.possible_from.Given as goal

-- those linked from the members so far
abbrev pub invariant-loop-i : goal.invariant-loop-i
invariant-loop-i l = HasLinked l.p l.among l.port l.from l.linked

abbrev pub decreases-loop-i : goal.decreases-loop-i
decreases-loop-i l = 256 - l.from
