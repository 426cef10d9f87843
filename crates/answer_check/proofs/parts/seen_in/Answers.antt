use Rattle.answer_check.specs.steps.Seen.{HasSeen, part_links_of}
use Rattle.answer_check.proofs.Grown.{has_each}
use Rattle.answer_check.proofs.parts.seen_in.Goals as goal

-- the part links of one instance more
pub loop-i-preserved : goal.loop-i-preserved
loop-i-preserved c =
    has_each HasSeen (part_links_of c.args.problem.now) c.args.c.now c.loop-i.i c.get.result.now c.get.ensures c.loop-i.seen _ c.loop-i.invariant c.add_instance.ensures
