use Rattle.state_values.proofs.LinkableLaws.{some_common}
use Rattle.state_values.proofs.links.links_some.Goals as goal

pub returns : goal.returns
returns c = some_common c.args.q.now.required c.args.into c.intersection.result c.intersection.ensures c.is_empty.result c.is_empty.ensures
