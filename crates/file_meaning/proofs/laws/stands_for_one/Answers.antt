-- It is the lemma of its name.
use Rattle.file_meaning.proofs.ValidFiles.{stands_for_one as law}
use Rattle.file_meaning.proofs.laws.stands_for_one.Goals as goal

pub returns : goal.returns
returns c = law
