use Rattle.std.proofs.Common.{length}
use Rattle.type_taxonomy.proofs.port_search.+count_new.Given as goal

abbrev pub decreases-count_new : goal.decreases-count_new
decreases-count_new l = length l.declared.now
