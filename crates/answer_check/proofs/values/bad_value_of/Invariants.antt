use Rattle.answer_check.specs.steps.Finds.{BreaksAt}
use Rattle.answer_check.proofs.Items.{NoItemBelow}
use Rattle.answer_check.proofs.values.bad_value_of.Given as goal

-- no value so far is out of its domain
abbrev pub invariant-loop-k : goal.invariant-loop-k
invariant-loop-k l = NoItemBelow (BreaksAt l.problem l.c 3 l.i) l.k
