-- It is the lemma of its name.
use Rattle.state_space.proofs.UndoLaws.{undone_in_turn as law}
use Rattle.state_space.proofs.laws.undone_in_turn.Goals as goal

pub returns : goal.returns
returns c = law
