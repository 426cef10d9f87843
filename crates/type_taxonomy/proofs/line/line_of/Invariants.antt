use Rattle.std.proofs.Common.{◌≡◌, ◌-◌, ◌++◌, []}
use Rattle.std.specs.Option.{option_map_or}
use Rattle.prod_model.specs.Forest.{line, line_within}
use Rattle.type_taxonomy.proofs.line.line_of.Given as goal

abbrev pub invariant-loop : goal.invariant-loop
invariant-loop l = l.members ++ option_map_or (line_within (l.most - l.counter) l.types) l.next [] ≡ line l.types l.t
