-- It is the lemma of its name.
use Rattle.state_space.proofs.ValidLaws.{valid_has_whole_domains as law}
use Rattle.state_space.proofs.laws.valid_has_whole_domains.Goals as goal

pub returns : goal.returns
returns c = law
