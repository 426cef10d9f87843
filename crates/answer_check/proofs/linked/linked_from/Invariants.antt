use Rattle.std.proofs.Common.{◌-◌}
use Rattle.answer_check.proofs.LinkedLaws.{HasLinkedBelow}
use Rattle.answer_check.proofs.linked.linked_from.Given as goal

-- those linked from the members so far
abbrev pub invariant-loop-i : goal.invariant-loop-i
invariant-loop-i l = HasLinkedBelow l.problem l.c l.port l.among l.from l.linked

abbrev pub decreases-loop-i : goal.decreases-loop-i
decreases-loop-i l = 256 - l.from
