-- What the test of one request answers.
use Rattle.std.specs.Prelude.{◌≡◌, ℕ, Bool, List, slice_get, Some}
use Rattle.prod_model.specs.declared.model.Model.{Model}
use Rattle.prod_model.specs.declared.model.Order.{Order}
use Rattle.prod_model.specs.declared.model.Request.{Request}
use Rattle.config_value.specs.declared.configuration.Instance.{Instance}
use Rattle.config_value.specs.Satisfies.{meets}

-- whether the configuration meets the k-th request
abbrev pub MeetsRequest : Model → Order → ℕ → List Instance → Bool → Type 0
MeetsRequest m o k c answer = (r : Request) → slice_get o.requests k ≡ Some r → answer ≡ meets m c r
