-- It is the lemma of its name.
use Rattle.state_space.proofs.ValidStates.{generation_keeps as law}
use Rattle.state_space.proofs.laws.generation_keeps.Goals as goal

pub returns : goal.returns
returns c = law
