-- It is the lemma of its name.
use Rattle.reason_trail.proofs.AssumedLaws.{assumed_is_nogood as law}
use Rattle.reason_trail.proofs.laws.assumed_is_nogood.Goals as goal

pub returns : goal.returns
returns c = law
