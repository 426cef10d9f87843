-- States that leave nothing open, and the configuration of such a state.
use Rattle.std.specs.Prelude.{ℕ, ℤ, pos, Bool, false, not, ◌&&◌, ◌||◌, ◌==◌, List, [], ◌∷◌, map, slice_index_or}
use Rattle.std.specs.declared.option.Option.{Option}
use Rattle.std.specs.Option.{option_map_or}
use Rattle.std.specs.List.{list_all, zip}
use Rattle.prod_model.specs.declared.model.Model.{Model}
use Rattle.prod_model.specs.Taxonomy.{attributes_at, ports_at}
use Rattle.config_value.specs.declared.configuration.Instance.{Instance}
use Rattle.state_space.specs.Made.{MadeInstance, domain_of, port_of_made}
use Rattle.state_space.specs.Values.{Values, least, count_of}
use Rattle.state_space.specs.Ports.{PortState, is_closed}
use Rattle.state_space.specs.Sets.{has_number}
use Rattle.state_space.specs.State.{State}

-- there is one value
abbrev pub has_one_value : Values → Bool
has_one_value d = count_of d == 1

-- it is closed, and what is possible is required
abbrev pub is_settled_port : PortState → Bool
is_settled_port q = is_closed q && list_all (has_number q.required) q.possible

-- What stands under each id that the type has passes. The types that have an id stand at the same
-- place of another list.
abbrev pub all_of_type : {D : Type 0} → (D → Bool) → ℕ → List (List ℕ) → List (Option D) → Bool
all_of_type test t types parts =
    list_all (λ e. not (has_number e.0 t) || option_map_or test e.1 false) (zip types parts)

-- An instance is of one type, with one value for each attribute of the type, and each of its ports
-- is settled.
abbrev pub is_whole_of : State → MadeInstance → List ℕ → Bool
is_whole_of s x (t ∷ []) =
    all_of_type has_one_value t s.attribute_types x.domains
    && all_of_type is_settled_port t s.port_types x.ports
is_whole_of s x kinds = false

-- Each made instance is of one type, with one value per attribute and settled ports.
unfoldable pub is_whole : State → Bool
is_whole s = list_all (λ x. is_whole_of s x x.kinds) s.made

-- the least value of an attribute, which in a whole state is the only one
abbrev pub value_left : MadeInstance → ℕ → ℤ
value_left x a = option_map_or least (domain_of x a) (pos 0)

-- the links that a port must have, which in a whole state are all
abbrev pub links_left : MadeInstance → ℕ → List ℕ
links_left x p = option_map_or (λ q. q.required) (port_of_made x p) []

-- the instance that is left
abbrev pub instance_left : Model → MadeInstance → Instance
instance_left m x = let t = slice_index_or x.kinds 0 0 in record {
  kind = t;
  values = map (λ a. value_left x a.id) (attributes_at m t);
  links = map (λ p. links_left x p.id) (ports_at m t);
}

-- the configuration of a whole state
unfoldable pub whole_configuration : Model → State → List Instance
whole_configuration m s = map (instance_left m) s.made
