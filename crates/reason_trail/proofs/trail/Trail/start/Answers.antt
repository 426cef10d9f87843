use Rattle.std.proofs.Common.{refl}
use Rattle.reason_trail.proofs.TrailPushes.{started_kept}
use Rattle.reason_trail.proofs.trail.Trail.start.Goals as goal

-- it is at the root state, and has no entries
pub invariant_of-result : goal.invariant_of-result
invariant_of-result c =
    rw (c.new.ensures, c.new-2.ensures.items, c.in_ok-state.ensures, c.in_ok-root.ensures.root, c.problem.ensures.problem)
    (started_kept c.in_ok-job.job c.problem.ensures.fitting)

-- so it is the trail of the job without entries
pub returns : goal.returns
returns c =
    rw (c.new.ensures, c.new-2.ensures.items, c.in_ok-state.ensures, c.in_ok-root.ensures.root, c.problem.ensures.problem, c.in_ok-job.ensures) refl
