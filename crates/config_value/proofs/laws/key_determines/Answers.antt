-- It is the lemma of its name.
use Rattle.config_value.proofs.KeyLaws.{key_determines as law}
use Rattle.config_value.proofs.laws.key_determines.Goals as goal

pub returns : goal.returns
returns c = law
