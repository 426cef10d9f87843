use Rattle.std.proofs.Common.{arith}
use Rattle.domain_store.proofs.Bits.{one_word_alone}
use Rattle.domain_store.proofs.word_domain.one_word.Goals as goal

pub returns : goal.returns
returns c = λ k low. one_word_alone c.args.n k (omega (arith, c.if-n-ge64.false))
