-- It is the lemma of its name.
use Rattle.state_space.proofs.ValidStates.{change_keeps as law}
use Rattle.state_space.proofs.laws.change_keeps.Goals as goal

pub returns : goal.returns
returns c = law
