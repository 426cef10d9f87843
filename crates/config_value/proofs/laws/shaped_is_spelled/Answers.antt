-- It is the lemma of its name.
use Rattle.config_value.proofs.SpelledLaws.{shaped_is_spelled as law}
use Rattle.config_value.proofs.laws.shaped_is_spelled.Goals as goal

pub returns : goal.returns
returns c = law
