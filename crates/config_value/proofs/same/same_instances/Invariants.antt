use Rattle.std.proofs.Common.{◌≡◌, take}
use Rattle.config_value.proofs.same.same_instances.Given as goal

abbrev pub invariant-loop-i : goal.invariant-loop-i
invariant-loop-i l = take l.i l.a ≡ take l.i l.b
