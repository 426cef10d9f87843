use Rattle.std.proofs.Common.{◌==◌, ap, sym, ◌∙◌}
use Rattle.std.specs.List.{list_any}
use Rattle.type_taxonomy.proofs.BuiltLaws.{is_a_line, is_a_none}
use Rattle.type_taxonomy.proofs.narrowing.is_a.Goals as goal

pub returns-in-Some : goal.returns-in-Some
returns-in-Some c =
    c.is_in.ensures ∙ ap (list_any (λ v. v == c.args.u)) c.as_slice.ensures
    ∙ is_a_line c.args.forest.now.model.now c.args.forest.now.lines c.args.t c.args.u c.in-Some.line.now c.requires.lines (sym c.in-Some.ensures.value)

pub returns-in-None : goal.returns-in-None
returns-in-None c = is_a_none c.args.forest.now.model.now c.args.forest.now.lines c.args.t c.args.u c.requires.lines (sym c.in-None.ensures.value)
