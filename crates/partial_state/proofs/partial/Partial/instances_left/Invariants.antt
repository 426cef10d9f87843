use Rattle.std.proofs.Common.{◌≡◌, map, take}
use Rattle.state_space.specs.Whole.{instance_left}
use Rattle.partial_state.proofs.partial.Partial.instances_left.Given as goal

abbrev pub invariant-loop-row : goal.invariant-loop-row
invariant-loop-row l = l.instances.items ≡ map (instance_left l.problem) (take l.row-index l.self.made)
