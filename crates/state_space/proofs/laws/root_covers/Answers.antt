-- It is the lemma of its name.
use Rattle.state_space.proofs.RootLaws.{root_covers as law}
use Rattle.state_space.proofs.laws.root_covers.Goals as goal

pub returns : goal.returns
returns c = law
