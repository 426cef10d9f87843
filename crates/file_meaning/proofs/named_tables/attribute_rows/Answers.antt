use Rattle.std.proofs.Common.{◌∙◌, ap}
use Rattle.file_meaning.specs.Named.{attribute_names}
use Rattle.file_meaning.proofs.LookUps.{rows_more}
use Rattle.file_meaning.proofs.named_tables.attribute_rows.Goals as goal

pub loop-t-preserved : goal.loop-t-preserved
loop-t-preserved c =
    rows_more (attribute_names c.args.model.now) c.loop-t.rows _ c.loop-t.t c.in_ok-attribute_names.field-0 c.loop-t.invariant c.in_ok-push.ensures.ok
    (c.in_ok-attribute_names.ensures ∙ ap (attribute_names c.args.model.now) c.in_ok-number_of.ensures)
