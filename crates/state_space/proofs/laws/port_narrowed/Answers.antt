-- It is the lemma of its name.
use Rattle.state_space.proofs.NarrowingLaws.{port_narrowed as law}
use Rattle.state_space.proofs.laws.port_narrowed.Goals as goal

pub returns : goal.returns
returns c = law
