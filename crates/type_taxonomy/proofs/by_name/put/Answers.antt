use Rattle.std.proofs.Common.{◌∙◌}
use Rattle.type_taxonomy.proofs.ByNameLaws.{found_put}
use Rattle.type_taxonomy.proofs.by_name.put.Goals as goal

pub returns : goal.returns
returns g c =
    found_put c.args.names.now c.insert.new.self c.bytes-name.result (g.D.Declaration.name_of c.args.declared.now) (record { height = c.args.height; declared = c.args.declared })
    c.in-Ok.ensures.updates (c.bytes-name.ensures ∙ c.name.ensures)
