-- It is the lemma of its name.
use Rattle.file_meaning.proofs.RuleLaws.{bounds_ignore_rules as law}
use Rattle.file_meaning.proofs.laws.bounds_ignore_rules.Goals as goal

pub returns : goal.returns
returns c = law
