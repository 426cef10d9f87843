use Rattle.std.proofs.Common.{◌≡◌, map}
use Rattle.std.specs.List.{range_with_len}
use Rattle.state_space.specs.Root.{whole_links, ports_under}
use Rattle.partial_state.specs.Masks.{kinds_of, instances_of}
use Rattle.partial_state.proofs.new_row.whole_ports.Given as goal

abbrev pub invariant-loop-types : goal.invariant-loop-types
invariant-loop-types l =
    l.ports.items ≡ map (λ p. whole_links (instances_of l.made) (ports_under l.problem (kinds_of l.kinds) p)) (range_with_len 0 l.types-index)
