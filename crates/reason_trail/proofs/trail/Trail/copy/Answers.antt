use Rattle.reason_trail.proofs.trail.Trail.copy.Goals as goal

-- each part is a copy
pub invariant_of-result : goal.invariant_of-result
invariant_of-result c =
    rw (c.in_ok-job.ensures, c.in_ok-root.ensures, c.in_ok-state.ensures, c.in_ok-log.ensures, c.in_ok-entries.ensures, c.as_slice.ensures.value) c.self.invariant

-- so it is the same trail
pub returns : goal.returns
returns c =
    rw (c.in_ok-job.ensures, c.in_ok-state.ensures, c.in_ok-log.ensures, c.in_ok-entries.ensures, c.as_slice.ensures.value) c.self.view_is
