-- It is the lemma of its name.
use Rattle.state_values.proofs.WholeDomainLaws.{change_keeps_domains_whole as law}
use Rattle.state_values.proofs.whole_domain_laws.change_keeps_domains_whole.Goals as goal

pub returns : goal.returns
returns c = law
