use Rattle.std.proofs.Common.{◌≡◌, map, take}
use Rattle.prod_model.specs.Taxonomy.{made_port}
use Rattle.type_taxonomy.proofs.tables.all_ports.Given as goal

abbrev pub invariant-loop-row : goal.invariant-loop-row
invariant-loop-row l = l.table ≡ map (map (λ e. made_port e.id e.declared.now)) (take l.row-index l.rows)
