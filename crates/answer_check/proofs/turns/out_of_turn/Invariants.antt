use Rattle.answer_check.specs.steps.Finds.{BreaksAt}
use Rattle.answer_check.proofs.Items.{NoPlaceBelow}
use Rattle.answer_check.proofs.turns.out_of_turn.Given as goal

-- no instance so far is out of turn
abbrev pub invariant-loop-j : goal.invariant-loop-j
invariant-loop-j l = NoPlaceBelow (BreaksAt l.problem l.c 8) l.j
