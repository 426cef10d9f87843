use Rattle.std.proofs.Common.{length}
use Rattle.partial_state.specs.Masks.{kinds_of}
use Rattle.partial_state.proofs.new_row.+greatest_count.Given as goal

abbrev pub decreases-greatest_count : goal.decreases-greatest_count
decreases-greatest_count l = length (kinds_of l.types)
