-- It is the lemma of its name.
use Rattle.reason_trail.proofs.BestLaws.{best_is_first_wanted as law}
use Rattle.reason_trail.proofs.laws.best_is_first_wanted.Goals as goal

pub returns : goal.returns
returns c = law
