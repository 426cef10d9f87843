-- It is the lemma of its name.
use Rattle.state_space.proofs.StateLaws.{each_keeps_state as law}
use Rattle.state_space.proofs.laws.each_keeps_state.Goals as goal

pub returns : goal.returns
returns c = law
