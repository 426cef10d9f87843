-- It is the lemma of its name.
use Rattle.state_values.proofs.CoveredLaws.{seen_holds_covered as law}
use Rattle.state_values.proofs.covered_laws.seen_holds_covered.Goals as goal

pub returns : goal.returns
returns c = law
