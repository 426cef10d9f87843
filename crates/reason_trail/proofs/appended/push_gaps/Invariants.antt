use Rattle.std.specs.Prelude.{◌-ℤ◌, nat_abs}
use Rattle.reason_trail.proofs.GapsLeft.{IsGoingOver}
use Rattle.reason_trail.proofs.appended.push_gaps.Given as goal

abbrev pub invariant-loop-gap : goal.invariant-loop-gap
invariant-loop-gap l = IsGoingOver l.i l.attr l.state l.fn.into l.into l.high l.from

abbrev pub decreases-loop-gap : goal.decreases-loop-gap
decreases-loop-gap l = nat_abs (l.high -ℤ l.from)
