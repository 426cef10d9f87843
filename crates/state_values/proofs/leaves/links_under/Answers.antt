use Rattle.std.proofs.Common.{◌∙◌, rules}
use Rattle.state_values.proofs.LeafLaws.{count_of_is}
use Rattle.state_values.proofs.leaves.links_under.Goals as goal

-- one for each link to an instance under the type
pub returns-clause-seen : goal.returns-clause-seen
returns-clause-seen c =
    c.make_ranged.ensures.seen
    ∙ count_of_is c.args.problem.now c.args.p.now c.args.kind c.args.i c.fresh.result c.tally-seen.result c.args.port c.port-q.result c.port-q.ensures.links
    c.port_at-declared.result.now c.port_at-declared.ensures c.args.of (search rules) c.tally-seen.ensures
