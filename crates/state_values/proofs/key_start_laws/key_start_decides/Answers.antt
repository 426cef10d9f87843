-- It is the lemma of its name.
use Rattle.state_values.proofs.KeyStartLaws.{key_start_decides as law}
use Rattle.state_values.proofs.key_start_laws.key_start_decides.Goals as goal

pub returns : goal.returns
returns c = law
