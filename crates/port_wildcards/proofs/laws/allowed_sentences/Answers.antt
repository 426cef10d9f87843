-- It is the lemma of its name.
use Rattle.port_wildcards.proofs.Narrowed.{allowed_sentences as law}
use Rattle.port_wildcards.proofs.laws.allowed_sentences.Goals as goal

pub returns : goal.returns
returns c = law
