use Rattle.std.proofs.Common.{length}
use Rattle.config_cli.proofs.names.+nth_new.Given as goal

abbrev pub decreases-nth_new : goal.decreases-nth_new
decreases-nth_new g l = length l.declared.now
