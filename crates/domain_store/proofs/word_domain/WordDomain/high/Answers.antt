use Rattle.std.proofs.Common.{ℕ, subst}
use Rattle.domain_store.specs.Words.{IsGreatestWord}
use Rattle.domain_store.proofs.Words.{highest_word}
use Rattle.domain_store.proofs.word_domain.WordDomain.high.Goals as goal

-- the highest bit
pub returns : goal.returns
returns c =
    let Greatest : ℕ → Type 0 = λ n. IsGreatestWord n c.ilog2.result in
    subst Greatest c.self.view_is (highest_word c.self.inside.mask c.ilog2.result c.ilog2.ensures.power_le c.ilog2.ensures.next_power_gt)
