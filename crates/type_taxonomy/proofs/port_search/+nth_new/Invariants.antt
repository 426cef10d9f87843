use Rattle.std.proofs.Common.{length}
use Rattle.type_taxonomy.proofs.port_search.+nth_new.Given as goal

abbrev pub decreases-nth_new : goal.decreases-nth_new
decreases-nth_new l = length l.declared.now
