-- It is the lemma of its name.
use Rattle.criteria_order.proofs.PreferredLaws.{preferred_is_first_wanted as law}
use Rattle.criteria_order.proofs.laws.preferred_is_first_wanted.Goals as goal

pub returns : goal.returns
returns c = law
