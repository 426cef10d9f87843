-- It is the lemma of its name.
use Rattle.state_space.proofs.StateLaws.{narrowing_keeps_state as law}
use Rattle.state_space.proofs.laws.narrowing_keeps_state.Goals as goal

pub returns : goal.returns
returns c = law
