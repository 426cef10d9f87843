-- It is the lemma of its name.
use Rattle.branch_cut.proofs.BranchLaws.{kinds_branch as law}
use Rattle.branch_cut.proofs.laws.kinds_branch.Goals as goal

pub returns : goal.returns
returns c = law
