use Rattle.state_space.specs.State.{IsState}
use Rattle.worked_states.proofs.changes.take_all.Given as goal

-- it is a state of the problem
abbrev pub invariant-loop-step : goal.invariant-loop-step
invariant-loop-step g l = IsState l.problem l.p
