-- It is the lemma of its name.
use Rattle.file_meaning.proofs.FirstFaults.{paths_keep_order as law}
use Rattle.file_meaning.proofs.laws.paths_keep_order.Goals as goal

pub returns : goal.returns
returns c = law
