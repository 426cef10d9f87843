-- It is the lemma of its name.
use Rattle.state_space.proofs.FewLaws.{generation_is_less as law}
use Rattle.state_space.proofs.laws.generation_is_less.Goals as goal

pub returns : goal.returns
returns c = law
