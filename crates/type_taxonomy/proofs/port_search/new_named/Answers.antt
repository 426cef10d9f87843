use Rattle.std.proofs.Common.{ap, sym, ◌∙◌}
use Rattle.std.specs.Option.{option_map}
use Rattle.type_taxonomy.specs.steps.PortSearch.{later}
use Rattle.type_taxonomy.proofs.PortLaws.{new_found}
use Rattle.type_taxonomy.proofs.port_search.new_named.Goals as goal

pub returns-in-Some : goal.returns-in-Some
returns-in-Some c =
    ap (option_map (later c.first_id-first.result)) (sym c.in-Some.is)
    ∙ new_found c.args.types.now c.args.t c.first_id-first.result c.declared_at.result.now c.args.name.now c.found_new.result c.first_id-first.ensures.id c.declared_at.ensures c.found_new.ensures.found

pub returns-in-None : goal.returns-in-None
returns-in-None c =
    ap (option_map (later c.first_id-first.result)) (sym c.in-None.is)
    ∙ new_found c.args.types.now c.args.t c.first_id-first.result c.declared_at.result.now c.args.name.now c.found_new.result c.first_id-first.ensures.id c.declared_at.ensures c.found_new.ensures.found
