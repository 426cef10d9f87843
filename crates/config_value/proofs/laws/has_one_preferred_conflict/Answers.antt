-- It is the lemma of its name.
use Rattle.config_value.proofs.ConflictLaws.{has_one_preferred_conflict as law}
use Rattle.config_value.proofs.laws.has_one_preferred_conflict.Goals as goal

pub returns : goal.returns
returns c = law
