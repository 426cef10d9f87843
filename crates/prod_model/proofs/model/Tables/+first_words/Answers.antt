use Rattle.std.proofs.Common.{◌≡◌, ◌<◌, arith, ◌∙◌, length, Some, None, rules, refl}
use Rattle.std.specs.Prelude.{IsSome}
use Rattle.std.specs.Option.{option_and_then}
use Rattle.prod_model.specs.Forest.{line, parent_of as parent_at}
use Rattle.prod_model.specs.Taxonomy.{attribute_of as attribute_at}
use Rattle.prod_model.proofs.FirstWords.{line_of_parent_shorter, own_first_words}
use Rattle.prod_model.proofs.model.Tables.+first_words.Goals as goal

-- a type without a parent declares what it has
pub returns-in_default : goal.returns-in_default
returns-in_default t c =
    let m = c.args.model.now in
    let none : parent_at m c.args.t ≡ None = search rules in
    let new : option_and_then (λ p. attribute_at m p c.args.id) (parent_at m c.args.t) ≡ None = rw none refl in
    c.own_words.ensures ∙ own_first_words m c.requires.forest c.args.t c.args.id new c.requires.known

-- so does one whose parent hasn't the attribute
pub returns-in-None : goal.returns-in-None
returns-in-None t c =
    let m = c.args.model.now in
    let is : parent_at m c.args.t ≡ Some c.in-Some.parent = search rules in
    let none : attribute_at m c.in-Some.parent c.args.id ≡ None = search rules in
    let new : option_and_then (λ p. attribute_at m p c.args.id) (parent_at m c.args.t) ≡ None = rw is none in
    c.own_words-in-None.ensures ∙ own_first_words m c.requires.forest c.args.t c.args.id new c.requires.known

pub first_words-requires : goal.first_words-requires
first_words-requires t c =
    let m = c.args.model.now in
    let is : parent_at m c.args.t ≡ Some c.in-Some.parent = search rules in
    let some : IsSome (attribute_at m c.in-Some.parent c.args.id) = search rules in
    let shorter : length (line m.types c.in-Some.parent) < length (line m.types c.args.t) =
    line_of_parent_shorter m c.requires.forest c.args.t c.in-Some.parent is in
    (omega (arith, c.decreases), (c.requires.forest, (c.requires.tables, some)))
