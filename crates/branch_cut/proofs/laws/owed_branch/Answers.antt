-- It is the lemma of its name.
use Rattle.branch_cut.proofs.OwedLaws.{owed_branch as law}
use Rattle.branch_cut.proofs.laws.owed_branch.Goals as goal

pub returns : goal.returns
returns c = law
