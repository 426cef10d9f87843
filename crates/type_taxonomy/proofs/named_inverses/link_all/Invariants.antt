use Rattle.std.proofs.Common.{◌≡◌, map}
use Rattle.prod_model.specs.Forest.{type_numbers}
use Rattle.prod_model.specs.Taxonomy.{declared_ports_at}
use Rattle.type_taxonomy.proofs.LinkedPorts.{linked_below}
use Rattle.type_taxonomy.proofs.named_inverses.link_all.Given as goal

-- the ports of the ids so far have their inverses
abbrev pub invariant-loop-id : goal.invariant-loop-id
invariant-loop-id l = l.rows ≡ map (map (linked_below l.model l.id)) (map (declared_ports_at l.model) (type_numbers l.model.types))
