use Rattle.answer_check.specs.steps.Finds.{BreaksAt}
use Rattle.answer_check.proofs.Items.{NoPlaceBelow}
use Rattle.answer_check.proofs.parts.shared_part.Given as goal

-- no instance so far has too many part links into it
abbrev pub invariant-loop-j : goal.invariant-loop-j
invariant-loop-j l = NoPlaceBelow (BreaksAt l.problem l.c 7) l.j
