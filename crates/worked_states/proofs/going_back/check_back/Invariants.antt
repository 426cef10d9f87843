use Rattle.state_space.specs.State.{IsState}
use Rattle.worked_states.proofs.going_back.check_back.Given as goal

-- it is a state of the problem
abbrev pub invariant-loop-row : goal.invariant-loop-row
invariant-loop-row g l = IsState l.problem l.p
