use Rattle.std.proofs.Common.{rules, ◌≡◌, ◌∙◌, pos, to_z, of_z, w64}
use Rattle.std.proofs.lemmas.Int.{ints}
use Rattle.partial_state.proofs.StoredNarrowings.{least_of_numbers, least_of_words, words_are_values}
use Rattle.partial_state.proofs.values.low.Goals as goal

pub returns-in-Numbers-clause-least : goal.returns-in-Numbers-clause-least
returns-in-Numbers-clause-least c =
    let same : to_z w64 (of_z w64 c.low.result) ≡ c.low.result = search rules in
    same ∙ least_of_numbers c.args.domain.now _ c.low.result c.in-Numbers.is c.requires c.low.ensures.least

pub returns-in-Words-clause-least : goal.returns-in-Words-clause-least
returns-in-Words-clause-least c =
    let same : to_z w64 (of_z w64 c.from.result) ≡ pos c.low-in-Words.result = search (rules, ints, c.from.ensures) in
    same ∙ least_of_words c.args.domain.now _ c.low-in-Words.result c.in-Words.is c.requires c.low-in-Words.ensures

pub returns-in-Words-clause-formed : goal.returns-in-Words-clause-formed
returns-in-Words-clause-formed c = words_are_values c.args.domain.now _ c.in-Words.is c.requires
