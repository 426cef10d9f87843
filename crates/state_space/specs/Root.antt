-- The root state: one instance, of which nothing is known but its taxonomy.
use Rattle.std.specs.Prelude.{ℕ, max, List, [], ◌∷◌, map, length, if◌then◌else◌, Some, None}
use Rattle.std.specs.declared.option.Option.{Option}
use Rattle.std.specs.List.{list_any, filter_map, fold, range_with_len, enumerate_from}
use Rattle.prod_model.specs.declared.model.Model.{Model}
use Rattle.prod_model.specs.declared.model.PortAt.{PortAt}
use Rattle.prod_model.specs.Taxonomy.{port_of}
use Rattle.state_space.specs.Made.{MadeInstance}
use Rattle.state_space.specs.Ports.{PortState}
use Rattle.config_value.specs.Literals.{has_attribute}
use Rattle.state_space.specs.State.{State, leaves_under, first_attributes, first_ports, attribute_types_of, port_types_of, values_of}

-- what the possible types have under the id of a port
abbrev pub ports_under : Model → List ℕ → ℕ → List PortAt
ports_under m kinds p = filter_map (λ t. port_of m t p) kinds

-- It requires nothing, may link the made instances, and later ones up to the greatest count over
-- the possible types.
abbrev pub whole_links : List ℕ → List PortAt → Option PortState
whole_links made [] = None
whole_links made (q ∷ qs) = Some (record {
  required = [];
  possible = made;
  fresh_low = 0;
  fresh_high = fold max 0 (map (λ r. r.high) (q ∷ qs));
})

-- a new instance of one of the types: with whole domains, and with ports that may link the made
-- instances
abbrev pub new_instance : Model → List ℕ → List ℕ → MadeInstance
new_instance m kinds made = record {
  kinds = kinds;
  domains =
      map (λ e. if list_any (λ t. has_attribute m t e.0) kinds then Some (values_of e.1.domain)
      else None) (enumerate_from 0 (first_attributes m));
  ports =
      map (λ p. whole_links made (ports_under m kinds p))
      (range_with_len 0 (length (first_ports m)));
}

-- One instance is made, of a leaf under the root type.
unfoldable pub root : Model → State
root m = record {
  attribute_types = attribute_types_of m;
  port_types = port_types_of m;
  made = new_instance m (leaves_under m m.root) (0 ∷ []) ∷ [];
}
