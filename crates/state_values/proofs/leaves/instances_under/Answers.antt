use Rattle.std.proofs.Common.{◌∙◌, rules}
use Rattle.state_values.proofs.LeafLaws.{number_is}
use Rattle.state_values.proofs.leaves.instances_under.Goals as goal

-- one for each instance under the type
pub returns-clause-seen : goal.returns-clause-seen
returns-clause-seen c =
    c.make_ranged.ensures.seen
    ∙ number_is c.args.problem.now c.args.p.now c.args.kind c.args.i c.unmade-rest.result c.tally-seen.result c.args.of (search rules) c.tally-seen.ensures
