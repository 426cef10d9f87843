use Rattle.std.proofs.Common.{◌+◌, ◌∙◌, ap}
use Rattle.partial_state.proofs.LinkCounts.{none_counted, least_counted}
use Rattle.partial_state.proofs.links.+count_from.Goals as goal

-- the least one is counted, and those after it
pub returns-in-Some-clause-counted : goal.returns-in-Some-clause-counted
returns-in-Some-clause-counted t c =
    ap (λ n. 1 + n) c.count_from.ensures.counted ∙ least_counted c.args.set.now c.args.from c.in-Some.j c.in-Some.ensures

pub returns-in-None-clause-counted : goal.returns-in-None-clause-counted
returns-in-None-clause-counted t c = none_counted c.args.set.now c.args.from c.in-None.ensures
