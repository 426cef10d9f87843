-- It is the lemma of its name.
use Rattle.state_space.proofs.WideLaws.{change_keeps_wide as law}
use Rattle.state_space.proofs.laws.change_keeps_wide.Goals as goal

pub returns : goal.returns
returns c = law
