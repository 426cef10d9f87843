-- What filtering promises: nothing that is wanted is lost, and a failure has its reason.
use Rattle.std.specs.Prelude.{◌≤◌, IsTrue, None, List}
use Rattle.config_value.specs.declared.configuration.Instance.{Instance}
use Rattle.literal_book.specs.Nogoods.{AreKept}
use Rattle.state_space.specs.State.{State}
use Rattle.state_space.specs.Covers.{Covers}
use Rattle.state_space.specs.Described.{entails_all}
use Rattle.reason_trail.specs.declared.reason.Reason.{Reason}
use Rattle.reason_trail.specs.declared.propagate.Step.{Step}
use Rattle.reason_trail.specs.declared.propagate.Step.TheVariants.{Stable, Failed}
use Rattle.reason_trail.specs.Jobs.{Task, IsWanted, HasCut}
use Rattle.reason_trail.specs.Reasons.{SupportsFailure}
use Rattle.reason_trail.specs.Trails.{Trace, Extends}

-- the trail was only added to, and its state covers each wanted configuration that it covered
pub record Filters (old new : Trace) : Type 0 where
  pub extends : Extends old new
  pub keeps : (c : List Instance) → IsWanted old.job c → Covers old.job.model old.state c
      → Covers old.job.model new.state c

-- The reason supports a failure. It rests on kept requests and on what the state entails, and names
-- the cut only where the goal has one.
pub record IsFailure (j : Task) (s : State) (r : Reason) : Type 0 where
  pub supported : SupportsFailure j None r
  pub entailed : entails_all j.model s r.literals
  pub kept : AreKept j.goal.keep r.requests
  pub cut : IsTrue r.cut → HasCut j

-- Where nothing more follows the state is settled; and a failure has its reason.
abbrev pub IsStep : (Task → State → Type 0) → Trace → Step → Type 0
IsStep Settled t Stable = Settled t.job t.state
IsStep Settled t (Failed r) = IsFailure t.job t.state r
