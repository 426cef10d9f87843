use Rattle.std.proofs.Common.{arith}
use Rattle.domain_store.proofs.Bits.{all_words, low_words}
use Rattle.domain_store.proofs.word_domain.words_up_to.Goals as goal

-- all words
pub returns-then-n-ge63 : goal.returns-then-n-ge63
returns-then-n-ge63 c = λ k low. all_words c.args.n k c.if-n-ge63.true low

-- the low ones
pub returns : goal.returns
returns c = λ k low. low_words c.args.n k (omega (arith, c.if-n-ge63.false))
