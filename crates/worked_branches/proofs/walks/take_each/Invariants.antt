use Rattle.state_space.specs.State.{IsState}
use Rattle.worked_branches.proofs.walks.take_each.Given as goal

-- it is a state of the problem
abbrev pub invariant-loop-branch : goal.invariant-loop-branch
invariant-loop-branch g l = IsState l.problem l.p
