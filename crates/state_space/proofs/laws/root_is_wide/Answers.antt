-- It is the lemma of its name.
use Rattle.state_space.proofs.WideLaws.{root_is_wide as law}
use Rattle.state_space.proofs.laws.root_is_wide.Goals as goal

pub returns : goal.returns
returns c = law
