use Rattle.std.proofs.Common.{◌≡◌, drop}
use Rattle.state_space.specs.Generation.{first_open_from}
use Rattle.partial_state.proofs.first_open.first_of.Given as goal

-- the search goes on with the instances that are left
abbrev pub invariant-loop-i : goal.invariant-loop-i
invariant-loop-i l = first_open_from l.problem 0 l.rows ≡ first_open_from l.problem l.i (drop l.i l.rows)
