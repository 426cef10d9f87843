-- It is the lemma of its name.
use Rattle.state_space.proofs.EntailedAfter.{change_entails as law}
use Rattle.state_space.proofs.laws.change_entails.Goals as goal

pub returns : goal.returns
returns c = law
