use Rattle.std.proofs.Common.{◌∙◌, ◌-◌, ◌^◌, ◌<◌, ap, not, arith}
use Rattle.domain_store.proofs.Bits.{other_words}
use Rattle.domain_store.proofs.Words.{by_mask}
use Rattle.domain_store.proofs.word_domain.WordDomain.remove.Goals as goal

-- the mask has all other words
pub returns : goal.returns
returns c =
    let fits : c.one_word.result < 2 ^ 64 = omega (arith, c.one_word.type_inv) in
    by_mask (2 ^ 64 - 1 - c.one_word.result) c.args.self.now c.narrow.new.self _ c.narrow.result c.narrow.ensures.fits
    (λ k low. other_words c.one_word.result k fits low ∙ ap not (c.one_word.ensures k low)) c.narrow.ensures.narrowed
