-- It is the lemma of its name.
use Rattle.state_values.proofs.ReadsEntailed.{reads_are_entailed as law}
use Rattle.state_values.proofs.covered_laws.reads_are_entailed.Goals as goal

pub returns : goal.returns
returns c = law
