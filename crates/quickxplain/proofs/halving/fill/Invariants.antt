-- The places so far are filled.
use Rattle.std.proofs.Common.{◌≡◌}
use Rattle.quickxplain.specs.steps.Ranges.{fill}
use Rattle.quickxplain.proofs.halving.fill.Given as goal

abbrev pub invariant-loop-i : goal.invariant-loop-i
invariant-loop-i l = l.keep ≡ fill l.from l.i l.kept l.fn.keep
