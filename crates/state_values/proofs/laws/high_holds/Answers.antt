-- It is the lemma of its name.
use Rattle.state_values.proofs.LowestLaws.{high_holds as law}
use Rattle.state_values.proofs.laws.high_holds.Goals as goal

pub returns : goal.returns
returns c = law
