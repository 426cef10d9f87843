-- What is left of a key start and of a key, as they are read number by number.
use Rattle.std.specs.Prelude.{ℕ, ℤ, pos, ◌-◌, ◌++◌, IsTrue, List, map, drop}
use Rattle.std.specs.Option.{is_some}
use Rattle.std.specs.List.{list_all, flat_map, range_with_len}
use Rattle.prod_model.specs.declared.model.Model.{Model}
use Rattle.prod_model.specs.declared.model.AttrAt.{AttrAt}
use Rattle.prod_model.specs.declared.model.PortAt.{PortAt}
use Rattle.config_value.specs.declared.configuration.Instance.{Instance}
use Rattle.config_value.specs.Rank.{instance_key}
use Rattle.state_space.specs.State.{State, IsState, number_made, domain_at, port_at, low_at}
use Rattle.state_values.specs.KeyStart.{ports_start, instances_start}

-- the key of the instances from a number on
abbrev pub key_from : ℕ → List Instance → List ℤ
key_from next c = flat_map instance_key (drop next c)

-- the key start of the made instances from a number on
abbrev pub start_from : Model → State → ℕ → List ℤ
start_from m s next = instances_start m s (range_with_len next (number_made s - next))

-- the least values of the attributes of instance i that are left, the links that are left of one of
-- its ports, its ports that are left, and the instances from a number on
abbrev pub start_left : Model → State → ℕ → List AttrAt → List ℕ → List PortAt → ℕ → List ℤ
start_left m s i attributes links ports next =
    map (λ a. low_at s i a.id) attributes
    ++ (map pos links ++ ports_start s i (start_from m s next) ports)

-- The state is one of the problem, and instance i has the attributes and ports that are left.
pub record HasLeft (m : Model) (s : State) (i : ℕ) (attributes : List AttrAt)
    (ports : List PortAt) : Type 0 where
  pub state : IsState m s
  pub has_attributes : IsTrue (list_all (λ a. is_some (domain_at s i a.id)) attributes)
  pub has_ports : IsTrue (list_all (λ p. is_some (port_at s i p.id)) ports)
