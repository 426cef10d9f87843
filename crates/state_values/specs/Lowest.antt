-- The least rank that a configuration of a state can have.
use Rattle.std.specs.Prelude.{ℤ, neg_ℤ, List, map, if◌then◌else◌}
use Rattle.prod_model.specs.declared.model.Model.{Model}
use Rattle.prod_model.specs.declared.model.Order.{Order}
use Rattle.prod_model.specs.declared.model.Criterion.{Criterion}
use Rattle.config_value.specs.declared.literal.Literal.{Literal}
use Rattle.state_space.specs.State.{State}
use Rattle.state_values.specs.Seen.{low, high, low_reads, high_reads}

-- the lowest value of a criterion: its low at instance 0, or where it is maximised the negated high
abbrev pub lowest_value : Model → State → Criterion → ℤ
lowest_value m s r =
    if r.maximise then neg_ℤ (high m s m.root 0 r.value) else low m s m.root 0 r.value

-- the literals that show it
abbrev pub lowest_reads : Model → State → Criterion → List Literal
lowest_reads m s r =
    if r.maximise then high_reads m s m.root 0 r.value else low_reads m s m.root 0 r.value

-- the lowest value of each criterion, in order
unfoldable pub lowest_vector : Model → Order → State → List ℤ
lowest_vector m o s = map (lowest_value m s) o.criteria
