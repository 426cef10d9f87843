-- Which configurations satisfy a model, and which requests of an order they meet.
use Rattle.std.specs.Prelude.{Bool, true, not, ◌&&◌, ◌||◌, IsTrue, List, map}
use Rattle.std.specs.List.{list_all, enumerate_from}
use lib.Pointwise.{pointwise}
use Rattle.prod_model.specs.declared.model.Model.{Model}
use Rattle.prod_model.specs.declared.model.Order.{Order}
use Rattle.prod_model.specs.declared.model.Request.{Request}
use Rattle.config_value.specs.declared.configuration.Instance.{Instance}
use Rattle.config_value.specs.Value.{under, is_true_at}
use Rattle.config_value.specs.Shaped.{is_shaped}
use Rattle.config_value.specs.Numbered.{is_numbered}

-- Each rule is true at each instance under its type.
unfoldable pub follows_rules : Model → List Instance → Bool
follows_rules m c =
    list_all (λ r. list_all (λ e. not (under m r.kind e.1) || is_true_at m c e.0 r.holds)
    (enumerate_from 0 c)) m.rules

-- It is shaped, its instances are numbered in order, and it follows all rules.
unfoldable pub satisfies : Model → List Instance → Bool
satisfies m c = is_shaped m c && is_numbered c && follows_rules m c

-- the request is true at instance 0
unfoldable pub meets : Model → List Instance → Request → Bool
meets m c r = is_true_at m c 0 r.holds

-- a set of requests is a truth for each of them, whether it is kept; every kept one is met
unfoldable pub meets_kept : Model → Order → List Bool → List Instance → Bool
meets_kept m o keep c = pointwise (λ kept r. not kept || meets m c r) keep o.requests

-- the set of all requests
abbrev pub all_kept : Order → List Bool
all_kept o = map (λ r. true) o.requests

-- it satisfies the model and meets every kept request
pub record IsCandidate (m : Model) (o : Order) (keep : List Bool) (c : List Instance) : Type 0 where
  pub satisfied : IsTrue (satisfies m c)
  pub met : IsTrue (meets_kept m o keep c)
