-- The rest is shorter.
use Rattle.std.proofs.Common.{length}
use Rattle.seq_search.proofs.seeking.+all_true.Given as goal

abbrev pub decreases-all_true : goal.decreases-all_true
decreases-all_true l = length l.extra.now
