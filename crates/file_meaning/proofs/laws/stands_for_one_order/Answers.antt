-- It is the lemma of its name.
use Rattle.file_meaning.proofs.ValidOrders.{stands_for_one_order as law}
use Rattle.file_meaning.proofs.laws.stands_for_one_order.Goals as goal

pub returns : goal.returns
returns c = law
