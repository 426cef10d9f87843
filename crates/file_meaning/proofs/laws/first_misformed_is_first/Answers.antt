-- It is the lemma of its name.
use Rattle.file_meaning.proofs.MisformedFirst.{first_misformed_is_first as law}
use Rattle.file_meaning.proofs.laws.first_misformed_is_first.Goals as goal

pub returns : goal.returns
returns c = law
