use Rattle.std.proofs.Common.{◌≡◌, map}
use Rattle.std.specs.List.{range_with_len}
use Rattle.file_meaning.specs.Named.{attribute_names}
use Rattle.file_meaning.proofs.named_tables.attribute_rows.Given as goal

-- the rows are those of the types so far
abbrev pub invariant-loop-t : goal.invariant-loop-t
invariant-loop-t l = l.rows ≡ map (attribute_names l.model) (range_with_len 0 l.t)
