-- It is the lemma of its name.
use Rattle.conflict_learn.proofs.ImpliedLaws.{implied_holds as law}
use Rattle.conflict_learn.proofs.laws.implied_holds.Goals as goal

pub returns : goal.returns
returns c = law
