use Rattle.answer_check.specs.steps.Finds.{BreaksAt}
use Rattle.answer_check.proofs.Items.{NoPlaceBelow}
use Rattle.answer_check.proofs.values.bad_value.Given as goal

-- no instance so far has a value out of its domain
abbrev pub invariant-loop-i : goal.invariant-loop-i
invariant-loop-i l = NoPlaceBelow (BreaksAt l.problem l.c 3) l.i
