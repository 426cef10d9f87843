use Rattle.std.proofs.Common.{◌∙◌}
use Rattle.state_values.proofs.LeafLaws.{count_is}
use Rattle.state_values.proofs.leaves.links.Goals as goal

-- one for each link
pub returns-clause-seen : goal.returns-clause-seen
returns-clause-seen c =
    c.make_ranged.ensures.seen
    ∙ count_is c.args.problem.now c.args.p.now c.args.kind c.args.i c.fresh.result c.tally-seen.result c.args.port c.port-q.result c.port-q.ensures.links c.fresh.ensures c.tally-seen.ensures
