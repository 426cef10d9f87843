use Rattle.std.proofs.Common.{subst, sym}
use Rattle.state_space.specs.State.{IsState}
use Rattle.reason_trail.specs.steps.Marks.{trace_of}
use Rattle.reason_trail.proofs.Trails.{now_is_state}
use Rattle.reason_trail.proofs.trail.Trail.fits.Goals as goal

-- the state that a trail has come to is one of its problem
pub fits-requires : goal.fits-requires
fits-requires c =
    subst (λ m. IsState m c.self.inside.state) (sym c.problem.ensures.problem)
    (now_is_state (trace_of c.self.inside.job c.self.inside.state c.self.inside.log c.self.inside.entries.items) c.self.invariant.trail)
