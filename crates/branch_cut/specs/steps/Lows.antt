-- The least values of a list of criteria, which need not be all of an order.
use Rattle.std.specs.Prelude.{ℤ, List, map}
use Rattle.prod_model.specs.declared.model.Model.{Model}
use Rattle.prod_model.specs.declared.model.Criterion.{Criterion}
use Rattle.state_space.specs.State.{State}
use Rattle.state_values.specs.Lowest.{lowest_value}

-- the lowest value of each, in order
abbrev pub lowest_values : Model → State → List Criterion → List ℤ
lowest_values m s criteria = map (lowest_value m s) criteria
