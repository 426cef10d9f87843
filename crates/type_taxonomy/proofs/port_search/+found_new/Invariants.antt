use Rattle.std.proofs.Common.{length}
use Rattle.type_taxonomy.proofs.port_search.+found_new.Given as goal

abbrev pub decreases-found_new : goal.decreases-found_new
decreases-found_new l = length l.declared.now
