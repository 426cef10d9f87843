-- The criteria get fewer.
use Rattle.std.proofs.Common.{length}
use Rattle.branch_cut.proofs.cut.+lowest_cmp.Given as goal

abbrev pub decreases-lowest_cmp : goal.decreases-lowest_cmp
decreases-lowest_cmp l = length l.criteria.now
