-- It is the lemma of its name.
use Rattle.file_meaning.proofs.BoundedExpressions.{faultless_is_bounded as law}
use Rattle.file_meaning.proofs.laws.faultless_is_bounded.Goals as goal

pub returns : goal.returns
returns c = law
