use Rattle.std.proofs.Common.{◌≡◌, take}
use Rattle.reason_trail.proofs.goal.copy_extra.Given as goal

abbrev pub invariant-loop-e : goal.invariant-loop-e
invariant-loop-e l = l.copies ≡ take l.e-index l.extra
