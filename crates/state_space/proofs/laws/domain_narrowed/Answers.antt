-- It is the lemma of its name.
use Rattle.state_space.proofs.NarrowingLaws.{domain_narrowed as law}
use Rattle.state_space.proofs.laws.domain_narrowed.Goals as goal

pub returns : goal.returns
returns c = law
