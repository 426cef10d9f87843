-- It is the lemma of its name.
use Rattle.branch_cut.proofs.BranchLaws.{values_branch as law}
use Rattle.branch_cut.proofs.laws.values_branch.Goals as goal

pub returns : goal.returns
returns c = law
