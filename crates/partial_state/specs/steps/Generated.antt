-- What one step of a generation does.
use Rattle.std.specs.Prelude.{◌≡◌, ℕ, zero, suc, ◌+◌, List, [], ◌∷◌, ◌++◌, map, Some}
use Rattle.std.specs.declared.option.Option.{Option}
use Rattle.std.specs.Option.{option_map, option_map_or, option_and_then}
use Rattle.std.specs.List.{enumerate_from, range_with_len}
use Rattle.prod_model.specs.declared.model.Model.{Model}
use Rattle.prod_model.specs.declared.model.PortAt.{PortAt}
use Rattle.prod_model.specs.Taxonomy.{port_of}
use Rattle.state_space.specs.Ports.{made_elsewhere}
use Rattle.state_space.specs.Made.{MadeInstance}
use Rattle.state_space.specs.State.{State, number_made, kinds_at, leaves_under}
use Rattle.state_space.specs.Root.{new_instance}
use Rattle.state_space.specs.Generation.{PortOf, first_open, ports_after, target_at}
use Rattle.partial_state.specs.steps.Openings.{sole_of}

-- a port of an instance
abbrev pub port_of_instance : ℕ → ℕ → PortOf
port_of_instance i p = record { instance = i; port = p }

-- it is the first open port
abbrev pub IsFirst : Model → State → ℕ → ℕ → Type 0
IsFirst m s i p = first_open m s ≡ Some (port_of_instance i p)

-- the port that an instance of one type has under an id
abbrev pub port_of_sole : Model → State → ℕ → ℕ → Option PortAt
port_of_sole m s i p = option_and_then (λ t. port_of m t p) (sole_of (kinds_at s i))

-- the type under which it links, and 0 where there is none
abbrev pub target_of_sole : Model → State → ℕ → ℕ → ℕ
target_of_sole m s i p = option_map_or (λ q. q.target) (port_of_sole m s i p) 0

-- the first elements, so many of them, changed alike
abbrev pub first_changed : {X : Type 0} → ℕ → (X → X) → List X → List X
first_changed n f [] = []
first_changed zero f (x ∷ xs) = x ∷ xs
first_changed (suc n) f (x ∷ xs) = f x ∷ first_changed n f xs

-- an instance, where instance n is made for a port of another one
abbrev pub instance_elsewhere : ℕ → MadeInstance → MadeInstance
instance_elsewhere n x = record x { ports = map (option_map (made_elsewhere n)) x.ports }

-- the next instance, as one is made for that port
abbrev pub instance_for : Model → State → PortOf → MadeInstance
instance_for m s at =
    new_instance m (leaves_under m (target_at m s at)) (range_with_len 0 (number_made s + 1))

-- the state with that next instance, which is made for the port
abbrev pub extended_for : PortOf → MadeInstance → State → State
extended_for at new s = record s {
  made =
      map (λ e. record e.1 { ports = ports_after (number_made s) at e.0 e.1.ports })
      (enumerate_from 0 s.made)
      ++ new ∷ [];
}
