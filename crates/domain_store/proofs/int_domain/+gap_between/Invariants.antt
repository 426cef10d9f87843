use Rattle.std.proofs.Common.{length}
use Rattle.domain_store.proofs.int_domain.+gap_between.Given as goal

abbrev pub decreases-gap_between : goal.decreases-gap_between
decreases-gap_between l = length l.intervals.now
