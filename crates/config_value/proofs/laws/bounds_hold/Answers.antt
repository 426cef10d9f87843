-- It is the lemma of its name.
use Rattle.config_value.proofs.BoundsLaws.{bounds_hold as law}
use Rattle.config_value.proofs.laws.bounds_hold.Goals as goal

pub returns : goal.returns
returns c = law
