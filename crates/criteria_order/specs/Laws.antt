-- What is wanted, and what is preferred.
use Rattle.std.specs.Prelude.{◌↔◌, Bool, None, Some, List, []}
use Rattle.prod_model.specs.declared.model.Model.{Model}
use Rattle.prod_model.specs.declared.model.Order.{Order}
use Rattle.config_value.specs.declared.configuration.Instance.{Instance}
use Rattle.config_value.specs.Preferred.{IsPreferred}
use Rattle.criteria_order.specs.Wanted.{IsFirstWanted}

-- Without a configuration to rank after and without extras, the first is the preferred one.
abbrev pub PreferredIsFirstWanted : Type 0
PreferredIsFirstWanted =
    (m : Model) (o : Order) (keep : List Bool) (c : List Instance)
    → IsPreferred m o keep c ↔ IsFirstWanted m o keep None [] (Some c)
