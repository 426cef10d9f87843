-- It is the lemma of its name.
use Rattle.file_meaning.proofs.ValidFiles.{faultless_is_valid as law}
use Rattle.file_meaning.proofs.laws.faultless_is_valid.Goals as goal

pub returns : goal.returns
returns c = law
