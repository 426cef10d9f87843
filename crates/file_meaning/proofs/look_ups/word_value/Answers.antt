use Rattle.std.proofs.Common.{rules, ◌≡◌, ◌∙◌, ap, sym, Some}
use Rattle.file_meaning.specs.Expressions.{attribute_named}
use Rattle.file_meaning.proofs.LookUps.{found_by_id}
use Rattle.file_meaning.proofs.look_ups.word_value.Goals as goal

pub first_words-requires-clause-known : goal.first_words-requires-clause-known
first_words-requires-clause-known c =
    let known : c.args.t ≡ Some c.in-Some.u = search rules in
    let named : attribute_named c.args.model.now c.args.t c.args.name.now ≡ Some c.in-Some-attribute_named.attribute.now = search rules in
    found_by_id c.args.model.now c.in-Some.u c.args.name.now c.in-Some-attribute_named.attribute.now
    (sym (ap (λ u. attribute_named c.args.model.now u c.args.name.now) known) ∙ named)
