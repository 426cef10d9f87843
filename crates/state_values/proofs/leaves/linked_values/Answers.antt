use Rattle.std.proofs.Common.{◌∙◌, rules}
use Rattle.state_values.proofs.LeafLaws.{linked_value, sum_is}
use Rattle.state_values.proofs.leaves.linked_values.Goals as goal

-- a linked instance that may be under the target may have the target's attribute
pub tally-seen-requires-clause-values : goal.tally-seen-requires-clause-values
tally-seen-requires-clause-values c = λ j made.
    linked_value c.args.problem.now c.model-model.ensures.valid.declared c.args.p.now c.requires.stands.state c.args.a c.port_at-declared.result.now.target j
    (c.requires.known c.port_at-declared.result.now c.port_at-declared.ensures) made c.port-q.result

-- the values of linked instances
pub returns-clause-seen : goal.returns-clause-seen
returns-clause-seen c =
    c.make_ranged.ensures.seen
    ∙ sum_is c.args.problem.now c.args.p.now c.args.kind c.args.i c.fresh.result c.tally-seen.result c.args.port c.port-q.result c.port-q.ensures.links
    c.port_at-declared.result.now c.port_at-declared.ensures c.args.a (search rules) c.tally-seen.ensures
