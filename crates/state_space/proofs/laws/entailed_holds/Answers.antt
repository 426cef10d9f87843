-- It is the lemma of its name.
use Rattle.state_space.proofs.EntailsLaws.{entailed_holds as law}
use Rattle.state_space.proofs.laws.entailed_holds.Goals as goal

pub returns : goal.returns
returns c = law
