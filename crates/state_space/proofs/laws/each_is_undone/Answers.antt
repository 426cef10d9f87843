-- It is the lemma of its name.
use Rattle.state_space.proofs.UndoLaws.{each_is_undone as law}
use Rattle.state_space.proofs.laws.each_is_undone.Goals as goal

pub returns : goal.returns
returns c = law
