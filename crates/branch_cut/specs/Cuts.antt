-- When no configuration that a state covers can beat the best answer so far.
use Rattle.std.specs.Prelude.{◌≡◌, IsTrue, List}
use Rattle.std.specs.declared.cmp.Ordering.{Ordering}
use Rattle.std.specs.declared.cmp.Ordering.TheVariants.{Greater}
use Rattle.std.specs.Ordering.{int_cmp, ordering_then}
use Rattle.std.specs.Cmp.Lexicographic.{slice_cmp}
use Rattle.config_value.specs.declared.configuration.Instance.{Instance}
use Rattle.config_value.specs.Rank.{rank}
use Rattle.config_value.specs.Satisfies.{satisfies}
use Rattle.state_space.specs.State.{State, IsState}
use Rattle.state_space.specs.Covers.{Covers}
use Rattle.state_values.specs.Lowest.{lowest_vector}
use Rattle.state_values.specs.KeyStart.{key_start_order}
use Rattle.state_values.specs.WholeDomains.{AreDomainsWhole}
use Rattle.reason_trail.specs.Jobs.{Task, IsTask, Beats}
use Rattle.reason_trail.specs.Trails.{Trace, IsTrail}

-- the lowest vector of a state beside the rank of a configuration, and then the key start beside
-- its key
abbrev pub cut_order : Task → State → List Instance → Ordering
cut_order j s best =
    ordering_then (slice_cmp int_cmp (lowest_vector j.model j.order s) (rank j.model j.order best))
    (key_start_order j.model s best)

-- The least rank and key that a covered configuration can have come after those of the best.
abbrev pub IsCutDemanded : Task → State → List Instance → Type 0
IsCutDemanded j s best = cut_order j s best ≡ Greater

-- no covered configuration that satisfies the model beats it
abbrev pub IsDead : Task → State → List Instance → Type 0
IsDead j s best =
    (c : List Instance) → IsTrue (satisfies j.model c) → Covers j.model s c → ¬ Beats j c best

-- Where a cut is demanded of a state of the problem with whole domains, it is dead.
abbrev pub DemandedIsDead : Type 0
DemandedIsDead =
    (j : Task) (s : State) (best : List Instance) → IsTask j → IsState j.model s
    → AreDomainsWhole j.model s → IsCutDemanded j s best → IsDead j s best

-- The state that a trail has come to has whole domains.
abbrev pub TrailDomainsAreWhole : Type 0
TrailDomainsAreWhole = (t : Trace) → IsTrail t → AreDomainsWhole t.job.model t.state
