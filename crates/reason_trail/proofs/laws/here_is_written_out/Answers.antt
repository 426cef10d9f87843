-- It is the lemma of its name.
use Rattle.reason_trail.proofs.JoinedLaws.{here_is_written_out as law}
use Rattle.reason_trail.proofs.laws.here_is_written_out.Goals as goal

pub returns : goal.returns
returns c = law
