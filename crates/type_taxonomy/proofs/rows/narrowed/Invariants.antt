use Rattle.std.proofs.Common.{◌≡◌, map, take}
use Rattle.type_taxonomy.specs.steps.Entries.{named, narrowed_by}
use Rattle.type_taxonomy.proofs.rows.narrowed.Given as goal

-- the inherited entries so far, narrowed
abbrev pub invariant-loop-e : goal.invariant-loop-e
invariant-loop-e g l =
    map (named g.D.Declaration.name_of) l.row
    ≡ narrowed_by g.D.Declaration.declared g.D.Declaration.name_of (g.D.Declaration.declared l.decl) (map (named g.D.Declaration.name_of) (take l.e-index l.inherited))
