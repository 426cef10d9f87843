-- It is the lemma of its name.
use Rattle.state_space.proofs.DescribedParts.{counts_are_described as law}
use Rattle.state_space.proofs.laws.counts_are_described.Goals as goal

pub returns : goal.returns
returns c = law
