use Rattle.type_taxonomy.proofs.TaxonomyFacts.{taxonomy_has_no_fault}
use Rattle.type_taxonomy.proofs.laws.has_no_fault.Goals as goal

pub returns : goal.returns
returns c = taxonomy_has_no_fault
