-- It is the lemma of its name.
use Rattle.config_value.proofs.ConflictLaws.{preferred_conflict_is_empty as law}
use Rattle.config_value.proofs.laws.preferred_conflict_is_empty.Goals as goal

pub returns : goal.returns
returns c = law
