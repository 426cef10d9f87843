-- The criteria get fewer.
use Rattle.std.proofs.Common.{length}
use Rattle.criteria_order.proofs.ranking.+criteria_cmp.Given as goal

abbrev pub decreases-criteria_cmp : goal.decreases-criteria_cmp
decreases-criteria_cmp l = length l.criteria.now
