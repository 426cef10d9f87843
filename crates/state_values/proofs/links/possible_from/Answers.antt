use Rattle.state_values.proofs.LinkableLaws.{linked_next}
use Rattle.state_values.proofs.links.possible_from.Goals as goal

pub loop-i-preserved : goal.loop-i-preserved
loop-i-preserved c =
    linked_next c.args.problem.now c.args.p.now c.requires.state c.args.among c.args.port c.loop-i.from c.in-Some.i c.loop-i.linked c.union-linked.result c.port.result
    c.loop-i.invariant c.in-Some.ensures c.port.ensures.links c.union-linked.ensures
