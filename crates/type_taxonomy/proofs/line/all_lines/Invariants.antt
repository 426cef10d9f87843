use Rattle.std.proofs.Common.{◌≡◌, map}
use Rattle.std.specs.List.{range_with_len}
use Rattle.prod_model.specs.Forest.{line}
use Rattle.type_taxonomy.proofs.line.all_lines.Given as goal

-- the lines of the types so far
abbrev pub invariant-loop-t : goal.invariant-loop-t
invariant-loop-t l = l.lines ≡ map (line l.types) (range_with_len 0 l.t)
