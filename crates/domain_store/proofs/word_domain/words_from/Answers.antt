use Rattle.std.proofs.Common.{arith}
use Rattle.domain_store.proofs.Bits.{high_words}
use Rattle.domain_store.proofs.word_domain.words_from.Goals as goal

pub returns : goal.returns
returns c = λ k low. high_words c.args.n k (omega (arith, c.if-n-ge64.false)) low
