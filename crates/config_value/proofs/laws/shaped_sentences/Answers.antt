-- It is the lemma of its name.
use Rattle.config_value.proofs.ShapedSentences.{shaped_sentences as law}
use Rattle.config_value.proofs.laws.shaped_sentences.Goals as goal

pub returns : goal.returns
returns c = law
