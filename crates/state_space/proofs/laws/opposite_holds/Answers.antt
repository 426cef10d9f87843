-- It is the lemma of its name.
use Rattle.state_space.proofs.ChangeLaws.{opposite_holds as law}
use Rattle.state_space.proofs.laws.opposite_holds.Goals as goal

pub returns : goal.returns
returns c = law
