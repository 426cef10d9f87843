use Rattle.std.proofs.Common.{length}
use Rattle.file_values.proofs.lengths.+declare_at_most.Given as goal

abbrev pub decreases-declare_at_most : goal.decreases-declare_at_most
decreases-declare_at_most l = length l.types.now
