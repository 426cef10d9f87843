use Rattle.std.proofs.Common.{◌<◌, length}
use Rattle.prod_model.specs.Forest.{line}
use Rattle.type_taxonomy.specs.steps.TypeForest.{HasRows}
use Rattle.type_taxonomy.proofs.rows.all_rows.Given as goal

-- the rows of shorter lines are done
abbrev pub invariant-loop-members : goal.invariant-loop-members
invariant-loop-members g l =
    HasRows g.D.Declaration.declared g.D.Declaration.name_of l.types (λ t. length (line l.types t) < l.members) l.rows
