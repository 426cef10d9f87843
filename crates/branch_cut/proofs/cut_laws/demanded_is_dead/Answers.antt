-- It is the lemma of its name.
use Rattle.branch_cut.proofs.CutLaws.{demanded_is_dead as law}
use Rattle.branch_cut.proofs.cut_laws.demanded_is_dead.Goals as goal

pub returns : goal.returns
returns c = law
