-- It is the lemma of its name.
use Rattle.state_space.proofs.ValidStates.{whole_covers_its_own as law}
use Rattle.state_space.proofs.laws.whole_covers_its_own.Goals as goal

pub returns : goal.returns
returns c = law
