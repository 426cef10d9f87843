-- The values of an order's criteria.
use Rattle.std.specs.Prelude.{ℤ, List, map}
use Rattle.prod_model.specs.declared.model.Model.{Model}
use Rattle.prod_model.specs.declared.model.Order.{Order}
use Rattle.config_value.specs.declared.configuration.Instance.{Instance}
use Rattle.config_value.specs.Value.{number_at}

-- the value of each criterion at instance 0, in order: not negated, also where it is maximised
abbrev pub criteria_values : Model → Order → List Instance → List ℤ
criteria_values m o c = map (λ r. number_at m c 0 r.value) o.criteria
