-- It is the lemma of its name.
use Rattle.state_space.proofs.DescriptionLaws.{description_is_entailed as law}
use Rattle.state_space.proofs.laws.description_is_entailed.Goals as goal

pub returns : goal.returns
returns c = law
