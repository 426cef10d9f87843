use Rattle.std.proofs.Common.{◌≡◌, take}
use Rattle.config_value.proofs.configuration.copy_instances.Given as goal

abbrev pub invariant-loop-instance : goal.invariant-loop-instance
invariant-loop-instance l = l.copies ≡ take l.instance-index l.instances
