-- It is the lemma of its name.
use Rattle.state_space.proofs.ValidStates.{size_is_positive as law}
use Rattle.state_space.proofs.laws.size_is_positive.Goals as goal

pub returns : goal.returns
returns c = law
