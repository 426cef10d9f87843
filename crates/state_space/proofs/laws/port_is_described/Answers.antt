-- It is the lemma of its name.
use Rattle.state_space.proofs.DescribedParts.{port_is_described as law}
use Rattle.state_space.proofs.laws.port_is_described.Goals as goal

pub returns : goal.returns
returns c = law
