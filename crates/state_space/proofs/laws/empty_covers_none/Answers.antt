-- It is the lemma of its name.
use Rattle.state_space.proofs.ChangeLaws.{empty_covers_none as law}
use Rattle.state_space.proofs.laws.empty_covers_none.Goals as goal

pub returns : goal.returns
returns c = law
