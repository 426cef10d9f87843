-- Stores of nogoods whose first request is never met.
use Rattle.std.specs.Prelude.{◌≡◌}
use Rattle.nogood_store.specs.Stores.{Held}
use Rattle.reason_trail.specs.Jobs.{Task}
use Rattle.worked_racks.specs.Unmet.{FirstIsUnmet}

-- It is of the job's model and order, and no configuration meets the first request: each nogood of
-- that request is sound.
pub record IsStoreOf (j : Task) (h : Held) : Type 0 where
  pub model : h.model ≡ j.model
  pub order : h.order ≡ j.order
  pub unmet : FirstIsUnmet j.model j.order
