-- The range gets shorter.
use Rattle.std.proofs.Common.{◌-◌}
use Rattle.quickxplain.proofs.halving.+narrow.Given as goal

abbrev pub decreases-narrow : goal.decreases-narrow
decreases-narrow g l = l.to - l.from
