-- It is the lemma of its name.
use Rattle.state_space.proofs.WholeCovered.{whole_covers_one as law}
use Rattle.state_space.proofs.laws.whole_covers_one.Goals as goal

pub returns : goal.returns
returns c = law
