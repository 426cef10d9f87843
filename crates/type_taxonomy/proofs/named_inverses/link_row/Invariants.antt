use Rattle.std.proofs.Common.{◌≡◌, [], ◌++◌, map, take, drop, slice_index_or, slice_set}
use Rattle.type_taxonomy.specs.steps.PortSearch.{given}
use Rattle.type_taxonomy.proofs.named_inverses.link_row.Given as goal

-- the ports so far have the inverse, and all else stays
abbrev pub invariant-loop-place : goal.invariant-loop-place
invariant-loop-place l =
    let row = slice_index_or l.initial.rows l.kind [] in
    l.rows ≡ slice_set l.initial.rows l.kind (map (given l.id l.inverse) (take l.place row) ++ drop l.place row)
