-- A mask of one bit is a power of two.
use Rattle.branch_cut.proofs.KindMasks.{sole_mask, several_mask}
use Rattle.branch_cut.proofs.choosing.sole.Goals as goal

pub returns-then-kinds-first : goal.returns-then-kinds-first
returns-then-kinds-first c = sole_mask c.args.kinds c.requires c.ranges.kinds.fits c.if-kinds-first.true

pub returns-else-kinds-first : goal.returns-else-kinds-first
returns-else-kinds-first c = several_mask c.args.kinds c.requires c.ranges.kinds.fits c.if-kinds-first.false
