-- Rank vectors by a list of criteria, which need not be all of an order.
use Rattle.std.specs.Prelude.{ℤ, neg_ℤ, Bool, List, map, if◌then◌else◌}
use Rattle.std.specs.List.{list_all}
use Rattle.prod_model.specs.declared.model.Model.{Model}
use Rattle.prod_model.specs.declared.model.Criterion.{Criterion}
use Rattle.prod_model.specs.ExprBounds.{is_number_at}
use Rattle.config_value.specs.declared.configuration.Instance.{Instance}
use Rattle.config_value.specs.Value.{number_at}

-- the value of a criterion at instance 0, negated where it is maximised
abbrev pub rank_value : Model → List Instance → Criterion → ℤ
rank_value m c r = let n = number_at m c 0 r.value in if r.maximise then neg_ℤ n else n

-- these values, in order
abbrev pub rank_values : Model → List Instance → List Criterion → List ℤ
rank_values m c criteria = map (rank_value m c) criteria

-- each criterion is a number without fault at the root type
abbrev pub are_numbers : Model → List Criterion → Bool
are_numbers m criteria = list_all (λ r. is_number_at m m.root r.value) criteria
