-- It is the lemma of its name.
use Rattle.expr_bounds.proofs.Bounded.{bounded_has_no_fault as law}
use Rattle.expr_bounds.proofs.laws.bounded_has_no_fault.Goals as goal

pub returns : goal.returns
returns c = law
