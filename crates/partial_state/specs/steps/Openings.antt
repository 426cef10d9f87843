-- What an instance tells of the first open port.
use Rattle.std.specs.Prelude.{ℕ, List, [], ◌∷◌, Some, None}
use Rattle.std.specs.declared.option.Option.{Option}
use Rattle.std.specs.Option.{option_map_or}
use Rattle.std.specs.List.{find}
use Rattle.prod_model.specs.declared.model.PortAt.{PortAt}
use Rattle.state_space.specs.Made.{MadeInstance}
use Rattle.state_space.specs.Generation.{PortOf, is_open}
use Rattle.partial_state.specs.declared.openings.Opening.{Opening}
use Rattle.partial_state.specs.declared.openings.Opening.TheVariants.{Here, Later, Unsettled}

-- the number that is the only one
abbrev pub sole_of : List ℕ → Option ℕ
sole_of (t ∷ []) = Some t
sole_of kinds = None

-- what an instance tells that is of one type, which has these ports
abbrev pub first_opening : MadeInstance → List PortAt → Opening
first_opening x ports =
    option_map_or (λ p. Here p.id) (find (λ p. is_open x p.id) ports) Later

-- the first open port of instance i, which tells this, and of the instances after it
abbrev pub opened_or : ℕ → Opening → Option PortOf → Option PortOf
opened_or i (Here p) later = Some (record { instance = i; port = p })
opened_or i Later later = later
opened_or i Unsettled later = None
