-- The problem and the order stay.
use Rattle.std.proofs.Common.{◌≡◌}
use Rattle.worked_searches.proofs.solvers.check_extras.Given as goal

abbrev pub invariant-loop-text : goal.invariant-loop-text
invariant-loop-text g l = l.solver ≡ l.initial.solver
