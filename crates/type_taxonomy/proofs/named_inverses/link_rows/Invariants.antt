use Rattle.std.proofs.Common.{◌≡◌, ◌++◌, map, take, drop}
use Rattle.type_taxonomy.specs.steps.PortSearch.{given}
use Rattle.type_taxonomy.proofs.named_inverses.link_rows.Given as goal

-- the rows so far have the inverse
abbrev pub invariant-loop-kind : goal.invariant-loop-kind
invariant-loop-kind l = l.rows ≡ map (map (given l.id l.inverse)) (take l.kind l.initial.rows) ++ drop l.kind l.initial.rows
