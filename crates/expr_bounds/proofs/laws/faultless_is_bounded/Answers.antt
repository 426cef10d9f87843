-- It is the lemma of its name.
use Rattle.expr_bounds.proofs.FaultlessBounded.{faultless_is_bounded as law}
use Rattle.expr_bounds.proofs.laws.faultless_is_bounded.Goals as goal

pub returns : goal.returns
returns c = law
