-- It is the lemma of its name.
use Rattle.state_space.proofs.ValidLaws.{valid_has_ids as law}
use Rattle.state_space.proofs.laws.valid_has_ids.Goals as goal

pub returns : goal.returns
returns c = law
