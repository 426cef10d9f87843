-- It is the lemma of its name.
use Rattle.config_value.proofs.RankLaws.{ranks_totally as law}
use Rattle.config_value.proofs.laws.ranks_totally.Goals as goal

pub returns : goal.returns
returns c = law
