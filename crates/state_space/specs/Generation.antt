-- The first open port, and the state after one more instance is made for it.
use Rattle.std.specs.Prelude.{ℕ, ◌+◌, Bool, false, not, ◌&&◌, ◌==◌, nat_le, nat_lt, List, [], ◌∷◌, ◌++◌, map, slice_get, true, if◌then◌else◌, Some, None}
use Rattle.std.specs.declared.option.Option.{Option}
use Rattle.std.specs.Option.{option_map, option_map_or, option_and_then}
use Rattle.std.specs.List.{list_any, find, enumerate_from, range_with_len}
use Rattle.prod_model.specs.declared.model.Model.{Model}
use Rattle.prod_model.specs.Taxonomy.{ports_at, port_of}
use Rattle.config_value.specs.declared.configuration.Instance.{Instance}
use Rattle.config_value.specs.Value.{links_at_instance}
use Rattle.state_space.specs.Made.{MadeInstance, port_of_made}
use Rattle.state_space.specs.Ports.{PortState, is_closed, made_here, made_elsewhere}
use Rattle.state_space.specs.State.{State, number_made, kinds_at, port_at, leaves_under}
use Rattle.state_space.specs.Root.{new_instance}

-- a port of an instance: the instance's number, and the port's id
pub record PortOf : Type 0 where
  pub instance : ℕ
  pub port : ℕ

-- the port under an id may link later instances
abbrev pub is_open : MadeInstance → ℕ → Bool
is_open x p = option_map_or (λ q. not (is_closed q)) (port_of_made x p) false

-- the type has no ports
abbrev pub has_no_ports : Model → ℕ → Bool
has_no_ports m t = elim (ports_at m t) [ [] ↦ true | (p ∷ ps) ↦ false ]

-- The first open port of an instance of these possible types, and else that of the instances after
-- it. Where the instance may be of several types and one of them has a port, there is none.
abbrev pub open_port_or : Model → ℕ → MadeInstance → Option PortOf → List ℕ → Option PortOf
open_port_or m i x later (t ∷ []) =
    option_map_or (λ p. Some (record { instance = i; port = p.id }))
    (find (λ p. is_open x p.id) (ports_at m t)) later
open_port_or m i x later kinds =
    if list_any (λ t. not (has_no_ports m t)) kinds then None else later

-- the first open port of instances that are numbered from i on
abbrev pub first_open_from : Model → ℕ → List MadeInstance → Option PortOf
first_open_from m i [] = None
first_open_from m i (x ∷ xs) =
    open_port_or m i x (first_open_from m (i + 1) xs) x.kinds

-- The first port, by instance and then in the order of its type, that is not closed, where it and
-- all ports before it belong to instances of one possible type.
unfoldable pub first_open : Model → State → Option PortOf
first_open m s = first_open_from m 0 s.made

-- there is a first open port, and what it may link passes
abbrev pub open_port_passes : Model → State → (PortState → Bool) → Bool
open_port_passes m s test =
    option_map_or (λ at. option_map_or test (port_at s at.instance at.port) false)
    (first_open m s) false

-- an instance may be made for the first open port
abbrev pub can_generate : Model → State → Bool
can_generate m s =
    nat_lt (number_made s) m.instances && open_port_passes m s (λ q. nat_le 1 q.fresh_high)

-- an instance has to be made for it
abbrev pub owes_instance : Model → State → Bool
owes_instance m s = open_port_passes m s (λ q. nat_le 1 q.fresh_low)

-- the ports of instance j, where instance n is made for a port: that one must link it, and every
-- other one may
abbrev pub ports_after : ℕ → PortOf → ℕ → List (Option PortState) → List (Option PortState)
ports_after n at j ports =
    map (λ e. option_map (if (j == at.instance) && (e.0 == at.port) then made_here n
    else made_elsewhere n) e.1) (enumerate_from 0 ports)

-- the type under which the port of an instance of one type links
abbrev pub target_at : Model → State → PortOf → ℕ
target_at m s at =
    option_map_or (λ p. p.target)
    (option_and_then (λ t. port_of m t at.port) (slice_get (kinds_at s at.instance) 0)) 0

-- the next instance is made for that port
abbrev pub generated_for : Model → State → PortOf → State
generated_for m s at = let n = number_made s in record s {
  made =
      map (λ e. record e.1 { ports = ports_after n at e.0 e.1.ports }) (enumerate_from 0 s.made)
      ++ new_instance m (leaves_under m (target_at m s at)) (range_with_len 0 (n + 1)) ∷ [];
}

-- The state after the next instance is made for the first open port, if there is one.
unfoldable pub generated : Model → State → State
generated m s = option_map_or (generated_for m s) (first_open m s) s

-- in the configuration the first open port links a later instance
abbrev pub links_later : Model → State → List Instance → Bool
links_later m s c =
    option_map_or
    (λ at. list_any (nat_le (number_made s)) (links_at_instance m c at.port at.instance))
    (first_open m s) false
