-- It is the lemma of its name.
use Rattle.config_value.proofs.NumberedSentences.{numbered_sentences as law}
use Rattle.config_value.proofs.laws.numbered_sentences.Goals as goal

pub returns : goal.returns
returns c = law
