use Rattle.domain_store.proofs.Fronts.{written_two}
use Rattle.domain_store.proofs.int_domain.split.Goals as goal

-- one is put before the old one, and the other in its place
pub returns-clause-ok : goal.returns-clause-ok
returns-clause-ok c = written_two c.args.at c.args.below c.args.above c.args.list.now.items c.insert.new.self.items c.as_mut_slice-all.result.now c.requires c.in_ok-insert.ensures.ok c.as_mut_slice-all.ensures.value
