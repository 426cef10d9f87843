-- What narrowing by the types of instances keeps, and what it comes to.
use Rattle.std.specs.Prelude.{◌≡◌, ℕ, Bool, true, false, Option, IfSome, List}
use Rattle.base_laws.specs.Places.{IsAt}
use Rattle.config_value.specs.declared.literal.Literal.{Literal}
use Rattle.config_value.specs.declared.literal.Literal.TheVariants.{Made, Kind, NotKind}
use Rattle.state_space.specs.State.{number_made, kinds_at}
use Rattle.reason_trail.specs.declared.reason.Reason.{Reason}
use Rattle.reason_trail.specs.Propagators.{Filters, IsFailure}
use Rattle.reason_trail.specs.Trails.{Trace}

-- nothing that is wanted is lost, and the same instances are made, each of the same possible types
pub record Narrows (old new : Trace) : Type 0 where
  pub filters : Filters old new
  pub made : number_made new.state ≡ number_made old.state
  pub kinds : (i : ℕ) → kinds_at new.state i ≡ kinds_at old.state i

-- nothing fails, or it does so for a reason
abbrev pub IsOutcome : Trace → Option Reason → Type 0
IsOutcome t failed = IfSome failed (IsFailure t.job t.state)

-- it is one of the list
abbrev pub IsAmong : {A : Type 0} → List A → A → Type 0
IsAmong xs x = (k : ℕ) × IsAt xs k x

-- the reason of these literals alone, without requests and without the cut
abbrev pub resting_on : List Literal → Reason
resting_on literals = record { requests = 0; literals = literals; cut = false }

-- a literal that speaks neither of types nor of what is made
abbrev pub leaves_types : Literal → Bool
leaves_types (Made i) = false
leaves_types (Kind i t) = false
leaves_types (NotKind i t) = false
leaves_types l = true
