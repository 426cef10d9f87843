-- The descriptions of all made instances, joined.
use Rattle.std.specs.Prelude.{ℕ, Bool, List}
use Rattle.std.specs.List.{flat_map, range_with_len}
use Rattle.config_value.specs.declared.literal.Literal.{Literal}
use Rattle.prod_model.specs.declared.model.Model.{Model}
use Rattle.prod_model.specs.Valid.{IsValid}
use Rattle.state_space.specs.State.{State, IsState, number_made}
use Rattle.state_space.specs.Unshared.{IsWide}
use Rattle.state_space.specs.Descriptions.{description}
use Rattle.state_space.specs.Described.{entails_all}
use Rattle.reason_trail.specs.declared.reason.Reason.{Reason}
use Rattle.reason_trail.specs.Jobs.{Task}
use Rattle.reason_trail.specs.Reasons.{Supports, SupportsHere}
use Rattle.std.specs.Prelude.{None}

-- all that a state says of its instances
abbrev pub joined_description : Model → State → List Literal
joined_description m s = flat_map (description m s) (range_with_len 0 (number_made s))

-- That reason, written out, of such requests and such a mark of the cut.
abbrev pub written_out : Task → State → ℕ → Bool → Reason
written_out j s requests cut = record {
  requests = requests;
  literals = joined_description j.model s;
  cut = cut;
}

-- What all that a state says supports, its joined descriptions support; and it entails them.
abbrev pub HereIsWrittenOut : Type 0
HereIsWrittenOut =
    (j : Task) (s : State) (requests : ℕ) (cut : Bool) (l : Literal) → IsValid j.model
    → IsState j.model s → IsWide j.model s → SupportsHere j s requests cut l
    → Supports j None (written_out j s requests cut) l
    × entails_all j.model s (joined_description j.model s)
