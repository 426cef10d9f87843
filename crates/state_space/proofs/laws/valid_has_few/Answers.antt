-- It is the lemma of its name.
use Rattle.state_space.proofs.FewLaws.{valid_has_few as law}
use Rattle.state_space.proofs.laws.valid_has_few.Goals as goal

pub returns : goal.returns
returns c = law
