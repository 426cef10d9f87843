-- It is the lemma of its name.
use Rattle.file_meaning.proofs.ValidOrders.{faultless_is_valid_order as law}
use Rattle.file_meaning.proofs.laws.faultless_is_valid_order.Goals as goal

pub returns : goal.returns
returns c = law
