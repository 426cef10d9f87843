-- What was assumed on the way to a failure.
use Rattle.std.specs.Prelude.{◌≡◌, ◌<◌, ℕ, false, Option, None, Some}
use Rattle.base_laws.specs.Places.{IsAt}
use Rattle.state_space.specs.Described.{entails_all}
use Rattle.reason_trail.specs.declared.reason.Reason.{Reason}
use Rattle.reason_trail.specs.Trails.{Trace, Stage}
use Rattle.reason_trail.specs.Assumptions.{assumed, some_names_cut, asked_by, AreAmong}
use Rattle.conflict_learn.specs.declared.assumptions.Assumptions.{Assumptions}

-- The mask asks for each request that the reason asks for, and that one of the first entries does.
pub record AskForAll (t : Trace) (r : Reason) (n requests : ℕ) : Type 0 where
  pub own : AreAmong r.requests requests
  pub each : (k : ℕ) (g : Stage) → k < n → IsAt t.stages k g
      → AreAmong (asked_by g.entry.why) requests

-- no reason on the trail names the cut, and the state entails all that was assumed
pub record CanUseAssumed (t : Trace) : Type 0 where
  pub uncut : some_names_cut t ≡ false
  pub entailed : entails_all t.job.model t.state (assumed t)

-- They are the literals that were assumed, and may be used, with all requests that are asked for.
pub record AreAssumed (t : Trace) (r : Reason) (a : Assumptions) : Type 0 where
  pub kept : CanUseAssumed t
  pub literals : a.literals.items ≡ assumed t
  pub own : AreAmong r.requests a.requests
  pub each : (k : ℕ) (g : Stage) → IsAt t.stages k g
      → AreAmong (asked_by g.entry.why) a.requests

-- the assumptions that may be used; nothing only where they may not be
abbrev pub AreUsable : Trace → Reason → Option Assumptions → Type 0
AreUsable t r None = ¬ CanUseAssumed t
AreUsable t r (Some a) = AreAssumed t r a
