-- It is the lemma of its name.
use Rattle.state_values.proofs.SeenHolds.{seen_holds as law}
use Rattle.state_values.proofs.laws.seen_holds.Goals as goal

pub returns : goal.returns
returns c = law
