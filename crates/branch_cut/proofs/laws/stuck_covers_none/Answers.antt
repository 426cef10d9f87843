-- It is the lemma of its name.
use Rattle.branch_cut.proofs.OwedLaws.{stuck_covers_none as law}
use Rattle.branch_cut.proofs.laws.stuck_covers_none.Goals as goal

pub returns : goal.returns
returns c = law
