use Rattle.std.proofs.Common.{ℕ, subst, arith}
use Rattle.std.specs.Int.{trailing_zeros, w64}
use Rattle.domain_store.specs.Words.{IsLeastWord}
use Rattle.domain_store.proofs.Words.{lowest_word}
use Rattle.domain_store.proofs.word_domain.WordDomain.low.Goals as goal

-- the lowest bit
pub returns : goal.returns
returns c =
    let Least : ℕ → Type 0 = λ n. IsLeastWord n (trailing_zeros w64 c.self.inside.mask) in
    subst Least c.self.view_is (lowest_word c.self.inside.mask c.self.invariant (omega arith))
