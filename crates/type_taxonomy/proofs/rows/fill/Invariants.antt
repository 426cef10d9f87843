use Rattle.type_taxonomy.specs.steps.TypeForest.{HasRows}
use Rattle.type_taxonomy.proofs.Filling.{IsFilled}
use Rattle.type_taxonomy.proofs.rows.fill.Given as goal

-- the rows of shorter lines are done, and of those of this length the ones so far
abbrev pub invariant-loop-t : goal.invariant-loop-t
invariant-loop-t g l = HasRows g.D.Declaration.declared g.D.Declaration.name_of l.types (IsFilled l.types l.members l.t) l.rows
