-- Conflicts of an order's requests, and the preferred one (Junker 2004). A set of requests is a
-- truth for each of them.
use Rattle.std.specs.Prelude.{◌≡◌, ◌≢◌, ℕ, suc, Bool, true, false, List, length, drop, slice_get, Some}
use Rattle.prod_model.specs.declared.model.Model.{Model}
use Rattle.prod_model.specs.declared.model.Order.{Order}
use Rattle.config_value.specs.declared.configuration.Instance.{Instance}
use Rattle.config_value.specs.Satisfies.{IsCandidate}
use Rattle.config_value.specs.Preferred.{IsFirst}

-- no configuration satisfies the model and meets all requests of the set
pub record IsConflict (m : Model) (o : Order) (keep : List Bool) : Type 0 where
  pub each_request : length keep ≡ length o.requests
  pub unmet : (c : List Instance) → ¬ IsCandidate m o keep c

-- some request is in y and not in x, and they agree on all requests after it
pub record IsAntilexSmaller (x y : List Bool) : Type 0 where
  pub request : ℕ
  pub left_out : slice_get x request ≡ Some false
  pub kept : slice_get y request ≡ Some true
  pub alike_after : drop (suc request) x ≡ drop (suc request) y

-- the conflict than which none is antilex-smaller
abbrev pub IsPreferredConflict : Model → Order → List Bool → Type 0
IsPreferredConflict m o = IsFirst (IsConflict m o) IsAntilexSmaller

-- all requests of the first set are in the second one, and it has others
pub record IsProperPart (part whole : List Bool) : Type 0 where
  pub each_request : length part ≡ length whole
  pub within : (request : ℕ) → slice_get part request ≡ Some true
      → slice_get whole request ≡ Some true
  pub others : part ≢ whole
