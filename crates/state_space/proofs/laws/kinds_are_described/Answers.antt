-- It is the lemma of its name.
use Rattle.state_space.proofs.DescribedParts.{kinds_are_described as law}
use Rattle.state_space.proofs.laws.kinds_are_described.Goals as goal

pub returns : goal.returns
returns c = law
