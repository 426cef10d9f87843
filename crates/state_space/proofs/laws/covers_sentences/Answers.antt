-- It is the lemma of its name.
use Rattle.state_space.proofs.CoversLaws.{covers_sentences as law}
use Rattle.state_space.proofs.laws.covers_sentences.Goals as goal

pub returns : goal.returns
returns c = law
