-- It is the lemma of its name.
use Rattle.state_space.proofs.DescribedCovered.{described_is_covered as law}
use Rattle.state_space.proofs.laws.described_is_covered.Goals as goal

pub returns : goal.returns
returns c = law
