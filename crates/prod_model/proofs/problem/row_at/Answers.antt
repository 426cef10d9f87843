use Rattle.std.proofs.Common.{◌∙◌}
use Rattle.prod_model.proofs.TaxonomyLaws.{row_read}
use Rattle.prod_model.proofs.problem.row_at.Goals as goal

pub returns : goal.returns
returns g c =
    c.as_slice.ensures ∙ row_read c.args.rows.now c.args.t c.index-rows-t.result c.requires c.index-rows-t.is
