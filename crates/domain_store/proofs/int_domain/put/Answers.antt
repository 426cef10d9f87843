use Rattle.domain_store.proofs.Fronts.{written_one}
use Rattle.domain_store.proofs.int_domain.put.Goals as goal

-- the slice is the whole list
pub returns : goal.returns
returns c = written_one c.args.at c.args.interval c.args.list.now.items c.as_mut_slice.result.now c.as_mut_slice.ensures.value c.requires
