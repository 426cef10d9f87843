-- It is the lemma of its name.
use Rattle.state_space.proofs.SizeLaws.{each_is_less as law}
use Rattle.state_space.proofs.laws.each_is_less.Goals as goal

pub returns : goal.returns
returns c = law
