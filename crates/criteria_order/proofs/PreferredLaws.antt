-- What is wanted without a configuration to rank after and without extras is a candidate.
use Rattle.std.proofs.Common.{List, [], None, refl}
use Rattle.std.specs.Prelude.{Bool}
use Rattle.prod_model.specs.declared.model.Model.{Model}
use Rattle.prod_model.specs.declared.model.Order.{Order}
use Rattle.config_value.specs.declared.configuration.Instance.{Instance}
use Rattle.config_value.specs.Satisfies.{IsCandidate}
use Rattle.criteria_order.specs.Wanted.{IsWanted}
use Rattle.criteria_order.specs.Laws.{PreferredIsFirstWanted}

wanted : (m : Model) (o : Order) (keep : List Bool) (c : List Instance) → IsCandidate m o keep c → IsWanted m o keep None [] c
wanted m o keep c candidate = record { candidate = candidate; extra_met = refl; later = refl }

pub preferred_is_first_wanted : PreferredIsFirstWanted
preferred_is_first_wanted m o keep c = (
  (λ preferred. record {
    is = wanted m o keep c preferred.is;
    none_before = λ y other. preferred.none_before y other.candidate;
  }),
  (λ first. record {
    is = first.is.candidate;
    none_before = λ y other. first.none_before y (wanted m o keep y other);
  }),
)
