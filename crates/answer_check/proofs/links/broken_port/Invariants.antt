use Rattle.answer_check.specs.steps.Finds.{BreaksAt}
use Rattle.answer_check.specs.steps.PortTests.{code_of}
use Rattle.answer_check.proofs.Items.{NoPlaceBelow}
use Rattle.answer_check.proofs.links.broken_port.Given as goal

-- no instance so far breaks the test
abbrev pub invariant-loop-i : goal.invariant-loop-i
invariant-loop-i l = NoPlaceBelow (BreaksAt l.problem l.c (code_of l.test)) l.i
