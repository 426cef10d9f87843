-- It is the lemma of its name.
use Rattle.prod_model.proofs.EntryPlaces.{ids_are_places as law}
use Rattle.prod_model.proofs.laws.ids_are_places.Goals as goal

pub returns : goal.returns
returns c = law
