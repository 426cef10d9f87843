use Rattle.prod_model.specs.Forest.{line}
use Rattle.type_taxonomy.proofs.Items.{table_more}
use Rattle.type_taxonomy.proofs.line.all_lines.Goals as goal

pub loop-t-preserved : goal.loop-t-preserved
loop-t-preserved c =
    table_more (line c.args.types.now) c.loop-t.lines _ c.loop-t.t c.in_ok-line_of.field-0 c.loop-t.invariant c.in_ok-push.ensures.ok c.in_ok-line_of.ensures
