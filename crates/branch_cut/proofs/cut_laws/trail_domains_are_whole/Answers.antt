-- It is the lemma of its name.
use Rattle.branch_cut.proofs.CutLaws.{trail_domains_are_whole as law}
use Rattle.branch_cut.proofs.cut_laws.trail_domains_are_whole.Goals as goal

pub returns : goal.returns
returns c = law
