-- Nogoods on the way to one that is taught.
use Rattle.std.specs.Prelude.{◌≡◌, ◌≤◌, ℕ, false, IsTrue, Option, None, Some, List, length}
use Rattle.base_laws.specs.Places.{IsAt}
use Rattle.prod_model.specs.declared.model.Model.{Model}
use Rattle.config_value.specs.declared.configuration.Instance.{Instance}
use Rattle.config_value.specs.declared.literal.Literal.{Literal}
use Rattle.literal_book.specs.declared.nogood.Nogood.{Nogood}
use Rattle.literal_book.specs.Nogoods.{IsSound, has_literals}
use Rattle.state_space.specs.Described.{entails_all}
use Rattle.reason_trail.specs.declared.reason.Reason.{Reason}
use Rattle.reason_trail.specs.Trails.{Trace}
use Rattle.reason_trail.specs.Assumptions.{assumed}
use Rattle.conflict_learn.specs.Learning.{most_compared}
use Rattle.conflict_learn.specs.steps.Assuming.{CanUseAssumed}
use Rattle.conflict_learn.specs.steps.Shortened.{AreApart, holds_always}

-- The nogood is sound, the state entails its literals, and each says something of a configuration
-- that satisfies the model.
pub record IsTelling (t : Trace) (n : Nogood) : Type 0 where
  pub sound : IsSound t.job.model t.job.order n
  pub entailed : entails_all t.job.model t.state n.literals
  pub tells : (k : ℕ) (l : Literal) → IsAt n.literals k l → holds_always t.job.model l ≡ false

-- the same, and it has no more literals than are given
pub record IsToldBy (t : Trace) (given : List Literal) (n : Nogood) : Type 0 where
  pub telling : IsTelling t n
  pub no_longer : length n.literals ≤ length given

-- a nogood of no more literals than were assumed; nothing only where those may not be used
abbrev pub IsToldByAssumed : Trace → Option Nogood → Type 0
IsToldByAssumed t None = ¬ CanUseAssumed t
IsToldByAssumed t (Some n) = IsToldBy t (assumed t) n

-- a nogood of no more literals than the reason has, nor than were assumed, where those may be used
pub record IsChosen (t : Trace) (r : Reason) (n : Nogood) : Type 0 where
  pub telling : IsTelling t n
  pub no_longer : length n.literals ≤ length r.literals
  pub no_longer_than_assumed : CanUseAssumed t → length n.literals ≤ length (assumed t)

-- The nogood has the requests of the given one and some of its literals, from which the others
-- follow. None implies another, where there are not too many.
pub record IsParted (m : Model) (given n : Nogood) : Type 0 where
  pub requests : n.requests ≡ given.requests
  pub no_longer : length n.literals ≤ length given.literals
  pub among : (k : ℕ) (l : Literal) → IsAt n.literals k l → (j : ℕ) × IsAt given.literals j l
  pub follows : (c : List Instance) → IsTrue (has_literals m c n.literals)
      → IsTrue (has_literals m c given.literals)
  pub apart : length n.literals ≤ most_compared → AreApart m n.literals
