-- It is the lemma of its name.
use Rattle.port_wildcards.proofs.Made.{whole_allows_one as law}
use Rattle.port_wildcards.proofs.laws.whole_allows_one.Goals as goal

pub returns : goal.returns
returns c = law
