-- It is the lemma of its name.
use Rattle.file_meaning.proofs.FirstFaults.{first_model_fault_is_one as law}
use Rattle.file_meaning.proofs.laws.first_model_fault_is_one.Goals as goal

pub returns : goal.returns
returns c = law
