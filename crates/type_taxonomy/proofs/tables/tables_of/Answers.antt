use Rattle.std.proofs.Common.{map, ap, ◌∙◌}
use Rattle.prod_model.specs.Taxonomy.{made_attribute, made_port}
use Rattle.type_taxonomy.proofs.BuiltLaws.{tables_built}
use Rattle.type_taxonomy.proofs.tables.tables_of.Goals as goal

pub returns : goal.returns
returns c =
    tables_built c.args.forest.now c.in_ok-all_attributes.field-0 c.in_ok-all_ports.field-0 c.requires
    (c.in_ok-all_attributes.ensures ∙ ap (map (map (λ e. made_attribute e.id e.declared.now))) c.as_slice.ensures)
    (c.in_ok-all_ports.ensures ∙ ap (map (map (λ e. made_port e.id e.declared.now))) c.as_slice-2.ensures)
