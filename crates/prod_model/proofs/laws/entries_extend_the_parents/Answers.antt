-- It is the lemma of its name.
use Rattle.prod_model.proofs.EntryPlaces.{entries_extend_the_parents as law}
use Rattle.prod_model.proofs.laws.entries_extend_the_parents.Goals as goal

pub returns : goal.returns
returns c = law
