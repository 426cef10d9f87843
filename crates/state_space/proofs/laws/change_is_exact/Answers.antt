-- It is the lemma of its name.
use Rattle.state_space.proofs.ChangeLaws.{change_is_exact as law}
use Rattle.state_space.proofs.laws.change_is_exact.Goals as goal

pub returns : goal.returns
returns c = law
