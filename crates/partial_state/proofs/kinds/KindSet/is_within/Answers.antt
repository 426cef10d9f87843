use Rattle.std.proofs.Common.{arith}
use Rattle.partial_state.proofs.KindsWithin.{within_is}
use Rattle.partial_state.proofs.kinds.KindSet.is_within.Goals as goal

pub returns : goal.returns
returns c = rw (← c.self.view_is) (within_is c.self.inside.mask c.args.mask c.self.invariant.1 (omega (arith, c.ranges.mask)))
