use Rattle.std.proofs.Common.{◌≡◌, map, take}
use Rattle.prod_model.specs.Taxonomy.{made_attribute}
use Rattle.type_taxonomy.proofs.tables.attributes_of.Given as goal

abbrev pub invariant-loop-e : goal.invariant-loop-e
invariant-loop-e l = l.attributes ≡ map (λ e. made_attribute e.id e.declared.now) (take l.e-index l.row)
