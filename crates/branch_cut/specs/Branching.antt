-- Choices between two literals, and states in which no instance is left that could be made.
use Rattle.std.specs.Prelude.{◌≡◌, Bool, not, ◌&&◌, ◌==◌, IsTrue, List}
use Rattle.prod_model.specs.declared.model.Model.{Model}
use Rattle.config_value.specs.declared.configuration.Instance.{Instance}
use Rattle.config_value.specs.Satisfies.{satisfies}
use Rattle.config_value.specs.Literals.{has_literal}
use Rattle.state_space.specs.State.{State, number_made}
use Rattle.state_space.specs.Covers.{Covers}
use Rattle.state_space.specs.Entails.{entails, fits}
use Rattle.state_space.specs.Generation.{owes_instance}
use Rattle.branch_cut.specs.declared.branch.Branch.{Branch}

-- The state is stuck: an instance has to be made, and all that the model has are made.
abbrev pub is_stuck_in : Model → State → Bool
is_stuck_in m s = owes_instance m s && (number_made s == m.instances)

-- In each covered configuration that satisfies the model exactly one of the two literals holds.
abbrev pub IsChoice : Model → State → Branch → Type 0
IsChoice m s b =
    (c : List Instance) → Covers m s c → IsTrue (satisfies m c)
    → has_literal m c b.second ≡ not (has_literal m c b.first)

-- the state can be narrowed by each of the two
abbrev pub fits_either : Model → State → Branch → Bool
fits_either m s b = fits m s b.first && fits m s b.second

-- the state entails neither of the two
abbrev pub entails_neither : Model → State → Branch → Bool
entails_neither m s b = not (entails m s b.first) && not (entails m s b.second)

-- The two are a choice, the state can be narrowed by each, and it entails neither.
pub record IsBranch (m : Model) (s : State) (b : Branch) : Type 0 where
  pub choice : IsChoice m s b
  pub fits : IsTrue (fits_either m s b)
  pub unknown : IsTrue (entails_neither m s b)
