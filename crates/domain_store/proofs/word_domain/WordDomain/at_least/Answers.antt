use Rattle.domain_store.proofs.Words.{by_mask}
use Rattle.domain_store.proofs.word_domain.WordDomain.at_least.Goals as goal

-- the mask has the wanted words
pub returns : goal.returns
returns c = by_mask c.words_from.result c.args.self.now c.narrow.new.self _ c.narrow.result c.narrow.ensures.fits c.words_from.ensures c.narrow.ensures.narrowed
