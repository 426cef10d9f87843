use Rattle.std.proofs.Common.{◌≡◌, map, take}
use Rattle.state_space.specs.Whole.{links_left}
use Rattle.partial_state.proofs.row.InstanceRow.links_of.Given as goal

abbrev pub invariant-loop-port : goal.invariant-loop-port
invariant-loop-port l =
    l.links.items ≡ map (λ p. links_left l.self p.id) (take l.port-index l.ports)
