use Rattle.std.proofs.Common.{◌≡◌}
use Rattle.worked_racks.proofs.racks.assume_each.Given as goal

-- the job stays
abbrev pub invariant-loop-literal : goal.invariant-loop-literal
invariant-loop-literal l = l.trail.job ≡ l.fn.trail.job
