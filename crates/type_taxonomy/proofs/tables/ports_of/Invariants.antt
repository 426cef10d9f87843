use Rattle.std.proofs.Common.{◌≡◌, map, take}
use Rattle.prod_model.specs.Taxonomy.{made_port}
use Rattle.type_taxonomy.proofs.tables.ports_of.Given as goal

abbrev pub invariant-loop-e : goal.invariant-loop-e
invariant-loop-e l = l.ports ≡ map (λ e. made_port e.id e.declared.now) (take l.e-index l.row)
