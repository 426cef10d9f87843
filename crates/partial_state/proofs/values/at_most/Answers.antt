use mir.Val.{SFits}
use Rattle.std.proofs.Common.{w64}
use Rattle.std.specs.Prelude.{int_le}
use Rattle.std.proofs.lemmas.Int.{to_z-of_z}
use Rattle.partial_state.proofs.StoredNarrowings.{numbers_stored, words_stored}
use Rattle.partial_state.proofs.values.at_most.Goals as goal

pub returns-in-Numbers : goal.returns-in-Numbers
returns-in-Numbers c =
    let fits : SFits w64 c.args.n = c.ranges.n in
    let given = simp to_z-of_z at c.at_most.ensures.narrowed in
    numbers_stored c.args.domain.now _ c.at_most.new.self (λ v. int_le v c.args.n) c.at_most.result c.in-Numbers.is c.requires c.at_most.ensures.formed given

pub returns-in-Words : goal.returns-in-Words
returns-in-Words c =
    let fits : SFits w64 c.args.n = c.ranges.n in
    let given = simp to_z-of_z at c.at_most-in-Words.ensures in
    words_stored c.args.domain.now _ c.at_most-in-Words.new.words (λ v. int_le v c.args.n) c.at_most-in-Words.result c.in-Words.is c.requires given
