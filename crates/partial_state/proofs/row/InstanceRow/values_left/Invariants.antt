use Rattle.std.proofs.Common.{◌≡◌, map, take}
use Rattle.state_space.specs.Whole.{value_left}
use Rattle.partial_state.proofs.row.InstanceRow.values_left.Given as goal

abbrev pub invariant-loop-attribute : goal.invariant-loop-attribute
invariant-loop-attribute l =
    l.values.items ≡ map (λ a. value_left l.self a.id) (take l.attribute-index l.attributes)
