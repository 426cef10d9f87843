use Rattle.std.proofs.Common.{rules, ◌≡◌, ◌∙◌, pos, to_z, of_z, w64}
use Rattle.std.proofs.lemmas.Int.{ints}
use Rattle.partial_state.proofs.StoredNarrowings.{greatest_of_numbers, greatest_of_words}
use Rattle.partial_state.proofs.values.high.Goals as goal

pub returns-in-Numbers : goal.returns-in-Numbers
returns-in-Numbers c =
    let same : to_z w64 (of_z w64 c.high.result) ≡ c.high.result = search rules in
    same ∙ greatest_of_numbers c.args.domain.now _ c.high.result c.in-Numbers.is c.requires c.high.ensures

pub returns-in-Words : goal.returns-in-Words
returns-in-Words c =
    let same : to_z w64 (of_z w64 c.from.result) ≡ pos c.high-in-Words.result = search (rules, ints, c.from.ensures) in
    same ∙ greatest_of_words c.args.domain.now _ c.high-in-Words.result c.in-Words.is c.requires c.high-in-Words.ensures
