-- It is the lemma of its name.
use Rattle.file_meaning.proofs.FaultlessModels.{faultless_is_formed as law}
use Rattle.file_meaning.proofs.laws.faultless_is_formed.Goals as goal

pub returns : goal.returns
returns c = law
