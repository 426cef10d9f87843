-- It is the lemma of its name.
use Rattle.state_space.proofs.NewState.{root_is_state as law}
use Rattle.state_space.proofs.laws.root_is_state.Goals as goal

pub returns : goal.returns
returns c = law
