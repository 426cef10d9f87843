-- A mask of one bit is a power of two.
use Rattle.std.proofs.Common.{refl}
use Rattle.branch_cut.proofs.KindMasks.{sole_mask}
use Rattle.type_narrowing.proofs.instances.sole.Goals as goal

pub returns-then-kinds-first : goal.returns-then-kinds-first
returns-then-kinds-first c = (sole_mask c.args.kinds c.requires c.ranges.kinds.fits c.if-kinds-first.true _).0 refl
