-- What is wanted of a job that asks for nothing beside its model.
use Rattle.std.proofs.Common.{◌≡◌, List, [], true, false, not, ◌||◌, length, replicate, refl, sym, subst}
use Rattle.std.specs.Prelude.{IsTrue}
use lib.Pointwise.{pointwise}
use Rattle.config_value.specs.declared.configuration.Instance.{Instance}
use Rattle.config_value.specs.Satisfies.{satisfies, meets, meets_kept}
use Rattle.reason_trail.specs.Jobs.{Task, IsWanted}
use Rattle.worked_racks.specs.Goals.{goal_of}

met_where_none : (j : Task) (c : List Instance) → j.order.requests ≡ []
    → IsTrue (meets_kept j.model j.order (replicate (length j.order.requests) true) c)
unfolding meets_kept
met_where_none j c none =
    subst (λ rs. IsTrue (pointwise (λ kept r. not kept || meets j.model c r) (replicate (length rs) true) rs))
    (sym none) refl

-- all that satisfies the model is
pub all_wanted : (j : Task) (c : List Instance) → j.goal ≡ goal_of j.order true false
    → j.order.requests ≡ [] → IsTrue (satisfies j.model c) → IsWanted j c
all_wanted j c goal none satisfied =
    subst (λ g. IsWanted (record j { goal = g }) c) (sym goal) (record {
      candidate = record { satisfied = satisfied; met = met_where_none j c none };
      extra_met = refl;
      later = refl;
    })
