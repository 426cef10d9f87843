-- It is the lemma of its name.
use Rattle.file_meaning.proofs.FormedExpressions.{formed_is_form as law}
use Rattle.file_meaning.proofs.laws.formed_is_form.Goals as goal

pub returns : goal.returns
returns c = law
