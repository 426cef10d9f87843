use Rattle.std.proofs.Common.{ap, ◌∙◌, [], unwrap_or}
use Rattle.std.specs.Prelude.{◌==◌, slice_get}
use Rattle.std.specs.List.{find}
use Rattle.std.specs.Option.{option_map}
use Rattle.prod_model.specs.Taxonomy.{without_inverse}
use Rattle.prod_model.proofs.Rows.{bare_port}
use Rattle.prod_model.proofs.model.Tables.port_of.Goals as goal

-- what is found in the row, without its inverse, is the declared port
pub returns : goal.returns
returns c =
    let row = c.row.ensures ∙ ap (λ rows. unwrap_or (slice_get rows c.args.t) []) c.as_slice.ensures in
    c.bare.ensures
    ∙ ap (option_map without_inverse) (c.find_port.ensures ∙ ap (find (λ p. p.id == c.args.id)) row)
    ∙ bare_port c.args.model.now c.args.self.now c.args.t c.args.id c.requires
