-- It is the lemma of its name.
use Rattle.state_space.proofs.DescribedParts.{attribute_is_described as law}
use Rattle.state_space.proofs.laws.attribute_is_described.Goals as goal

pub returns : goal.returns
returns c = law
