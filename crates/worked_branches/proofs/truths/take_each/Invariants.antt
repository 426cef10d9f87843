use Rattle.state_space.specs.State.{IsState}
use Rattle.worked_branches.proofs.truths.take_each.Given as goal

-- it is a state of the problem
abbrev pub invariant-loop-literal : goal.invariant-loop-literal
invariant-loop-literal g l = IsState l.problem l.p
