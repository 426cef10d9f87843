use Rattle.std.proofs.Common.{◌∙◌, rules}
use Rattle.state_values.proofs.LeafLaws.{value_under_type, total_is}
use Rattle.state_values.proofs.leaves.values_under.Goals as goal

-- an instance that may be under the type may have its attribute
pub tally-seen-requires-clause-values : goal.tally-seen-requires-clause-values
tally-seen-requires-clause-values c = λ j made.
    value_under_type c.args.problem.now c.model.ensures.valid.declared c.args.p.now c.requires.state c.args.a c.args.of j c.requires.known made

-- the values of the instances under the type
pub returns-clause-seen : goal.returns-clause-seen
returns-clause-seen c =
    c.make_ranged.ensures.seen
    ∙ total_is c.args.problem.now c.args.p.now c.args.kind c.args.i c.unmade-rest.result c.tally-seen.result c.args.of c.args.a (search rules) c.tally-seen.ensures
