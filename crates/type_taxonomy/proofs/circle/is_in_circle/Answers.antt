use Rattle.std.proofs.Common.{◌==◌, length, drop, arith, ap, ◌∙◌}
use Rattle.std.specs.List.{list_any}
use Rattle.prod_model.specs.Forest.{line}
use Rattle.type_taxonomy.proofs.Items.{length_table, table_row}
use Rattle.type_taxonomy.proofs.circle.is_in_circle.Goals as goal

pub bounds-lines-t : goal.bounds-lines-t
bounds-lines-t c = omega (arith, length_table (line c.args.model.now.types) c.args.lines.now (length c.args.model.now.types) c.requires.lines)

pub returns : goal.returns
returns c =
    let types = c.args.model.now.types in
    let is_line = c.as_slice.ensures ∙ table_row (line types) c.args.lines.now (length types) c.args.t c.index-lines-t.result c.requires.lines c.requires.known c.index-lines-t.is in
    c.is_below_itself.ensures ∙ ap (λ l. list_any (λ u. u == c.args.t) (drop 1 l)) is_line
