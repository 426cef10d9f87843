use Rattle.std.proofs.Common.{length}
use Rattle.file_values.proofs.place.+place_cmp.Given as goal

abbrev pub decreases-place_cmp : goal.decreases-place_cmp
decreases-place_cmp l = length l.place.now
