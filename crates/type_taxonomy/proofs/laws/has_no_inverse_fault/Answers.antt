use Rattle.type_taxonomy.proofs.FirstInverseFault.{right_has_no_fault}
use Rattle.type_taxonomy.proofs.laws.has_no_inverse_fault.Goals as goal

pub returns : goal.returns
returns c = right_has_no_fault
