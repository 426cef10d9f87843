-- Reasons: what they speak of, and what they support.
use Rattle.std.specs.Prelude.{ℕ, Bool, IsTrue, Option, None, List}
use Rattle.config_value.specs.declared.configuration.Instance.{Instance}
use Rattle.config_value.specs.declared.literal.Literal.{Literal}
use Rattle.config_value.specs.Satisfies.{satisfies}
use Rattle.config_value.specs.Literals.{has_literal}
use Rattle.literal_book.specs.Nogoods.{meets_asked, has_literals}
use Rattle.state_space.specs.State.{State}
use Rattle.state_space.specs.Covers.{Covers}
use Rattle.reason_trail.specs.declared.reason.Reason.{Reason}
use Rattle.reason_trail.specs.declared.reason.Why.{Why}
use Rattle.reason_trail.specs.declared.reason.Why.TheVariants.{Assumed, Written, Here}
use Rattle.state_space.specs.Described.{entails_all}
use Rattle.reason_trail.specs.Jobs.{Task, passes}

-- It satisfies the model, meets the requests, and passes the cut where that is named.
pub record IsSubject (j : Task) (best : Option (List Instance)) (requests : ℕ) (cut : Bool)
    (c : List Instance) : Type 0 where
  pub satisfied : IsTrue (satisfies j.model c)
  pub met : IsTrue (meets_asked j.model j.order requests c)
  pub passed : IsTrue cut → IsTrue (passes j best c)

-- Each such configuration that has the reason's literals has the literal.
abbrev pub Supports : Task → Option (List Instance) → Reason → Literal → Type 0
Supports j best r l =
    (c : List Instance) → IsSubject j best r.requests r.cut c
    → IsTrue (has_literals j.model c r.literals) → IsTrue (has_literal j.model c l)

-- There is no such configuration.
abbrev pub SupportsFailure : Task → Option (List Instance) → Reason → Type 0
SupportsFailure j best r =
    (c : List Instance) → IsSubject j best r.requests r.cut c
    → ¬ IsTrue (has_literals j.model c r.literals)

-- Each such configuration that the state covers has the literal.
abbrev pub SupportsHere : Task → State → ℕ → Bool → Literal → Type 0
SupportsHere j s requests cut l =
    (c : List Instance) → IsSubject j None requests cut c → Covers j.model s c
    → IsTrue (has_literal j.model c l)

-- Why a literal holds in a state: it was assumed; or its reason supports it, and the state entails
-- the reason; or all that the state says of its instances supports it.
abbrev pub IsWhy : Task → State → Literal → Why → Type 0
IsWhy j s l Assumed = Unit {0}
IsWhy j s l (Written r) = Supports j None r l × entails_all j.model s r.literals
IsWhy j s l (Here requests cut) = SupportsHere j s requests cut l
