use Rattle.domain_store.proofs.Words.{by_mask}
use Rattle.domain_store.proofs.word_domain.WordDomain.keep.Goals as goal

-- the mask has the wanted words
pub returns : goal.returns
returns c = by_mask c.one_word.result c.args.self.now c.narrow.new.self _ c.narrow.result c.narrow.ensures.fits c.one_word.ensures c.narrow.ensures.narrowed
