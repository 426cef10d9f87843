use Rattle.std.proofs.Common.{subst, sym, length, ◌<◌}
use Rattle.prod_model.specs.Taxonomy.{AreTablesOf}
use Rattle.prod_model.proofs.Inverses.{own_tables}
use Rattle.worked_racks.proofs.UnmetLaws.{root_is_type}
use Rattle.worked_racks.proofs.reach.root_bounds.Goals as goal

pub bounds_of-requires-clause-tables : goal.bounds_of-requires-clause-tables
bounds_of-requires-clause-tables c =
    subst (λ m. AreTablesOf m c.tables.result.now) (sym c.model-model.ensures.model) (own_tables c.args.problem.now c.tables.result.now c.tables.ensures)

pub bounds_of-requires-clause-at : goal.bounds_of-requires-clause-at
bounds_of-requires-clause-at c =
    subst (λ m. m.root < length m.types) (sym c.model-model.ensures.model) (root_is_type c.args.problem.now c.model-model.ensures.valid)
