-- It is the lemma of its name.
use Rattle.config_value.proofs.RankLaws.{has_one_preferred as law}
use Rattle.config_value.proofs.laws.has_one_preferred.Goals as goal

pub returns : goal.returns
returns c = law
