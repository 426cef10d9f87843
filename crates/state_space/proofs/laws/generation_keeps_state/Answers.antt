-- It is the lemma of its name.
use Rattle.state_space.proofs.GenerationState.{generation_keeps_state as law}
use Rattle.state_space.proofs.laws.generation_keeps_state.Goals as goal

pub returns : goal.returns
returns c = law
