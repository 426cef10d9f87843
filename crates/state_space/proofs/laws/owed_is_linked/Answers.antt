-- It is the lemma of its name.
use Rattle.state_space.proofs.SearchLaws.{owed_is_linked as law}
use Rattle.state_space.proofs.laws.owed_is_linked.Goals as goal

pub returns : goal.returns
returns c = law
