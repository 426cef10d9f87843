use Rattle.std.proofs.Common.{sym, subst, bit_or, ◌+◌}
use Rattle.conflict_learn.specs.steps.Assuming.{AskForAll}
use Rattle.conflict_learn.proofs.Entries.{ask_for_more}
use Rattle.conflict_learn.proofs.assumptions.all_requests.Goals as goal

-- what was asked for is asked for still, and what the entry asks for, too
pub loop-n-preserved : goal.loop-n-preserved
loop-n-preserved c =
    let t = c.args.trail.now in
    let r = c.args.why.now in
    subst (λ asked. AskForAll t r (c.loop-n.n + 1) (bit_or c.loop-n.requests asked)) (sym c.asked_by-requests.ensures)
    (ask_for_more t r c.loop-n.n c.loop-n.requests c.entry.result.now c.entry.ensures.entry c.loop-n.invariant)
