use Rattle.std.proofs.Common.{◌≤ℤ◌, subst, arith}
use Rattle.std.specs.Prelude.{IsTrue}
use Rattle.std.proofs.lemmas.Int.{ints, to_z-of_z}
use Rattle.prod_model.specs.declared.model.Domain.{Domain}
use Rattle.partial_state.specs.steps.NewRows.{is_formed}
use Rattle.partial_state.proofs.WholeDomains.{ends_ordered, words_between}
use Rattle.partial_state.proofs.new_row.whole_domain.Goals as goal

-- the ends are in order
pub number_domain-requires : goal.number_domain-requires
number_domain-requires c =
    let ordered : c.in-Range.low ≤ℤ c.in-Range.high =
    ends_ordered c.in-Range.low c.in-Range.high (subst (λ (d : Domain). IsTrue (is_formed d)) c.in-Range.is c.requires) in
    grind (arith, ints, to_z-of_z, ordered)

-- there are 1 to 64 words
pub word_domain-requires : goal.word_domain-requires
word_domain-requires c =
    let between = words_between c.in-Words.words (subst (λ (d : Domain). IsTrue (is_formed d)) c.in-Words.is c.requires) in
    record { some = omega (arith, c.len.ensures, between.0); few = omega (arith, c.len.ensures, between.1) }
