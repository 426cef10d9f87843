use Rattle.state_space.specs.State.{IsState}
use Rattle.worked_states.proofs.removals.remove_each.Given as goal

-- it is a state of the problem
abbrev pub invariant-loop-value : goal.invariant-loop-value
invariant-loop-value g l = IsState l.problem l.p
