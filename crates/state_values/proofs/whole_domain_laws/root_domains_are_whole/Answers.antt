-- It is the lemma of its name.
use Rattle.state_values.proofs.WholeDomainLaws.{root_domains_are_whole as law}
use Rattle.state_values.proofs.whole_domain_laws.root_domains_are_whole.Goals as goal

pub returns : goal.returns
returns c = law
