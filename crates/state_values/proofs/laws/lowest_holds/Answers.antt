-- It is the lemma of its name.
use Rattle.state_values.proofs.LowestLaws.{lowest_holds as law}
use Rattle.state_values.proofs.laws.lowest_holds.Goals as goal

pub returns : goal.returns
returns c = law
