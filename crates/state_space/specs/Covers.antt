-- Which configurations a state covers.
use Rattle.std.specs.Prelude.{ℕ, ℤ, Bool, false, ◌&&◌, nat_le, List, length, IsTrue, ◌≤◌, ◌↔◌}
use Rattle.std.specs.Option.{option_map_or}
use Rattle.std.specs.List.{list_all, zip}
use Rattle.base_laws.specs.Places.{IsAt}
use Rattle.prod_model.specs.declared.model.Model.{Model}
use Rattle.prod_model.specs.Taxonomy.{attributes_at, ports_at}
use Rattle.config_value.specs.declared.configuration.Instance.{Instance}
use Rattle.config_value.specs.Value.{value_of, links_of}
use Rattle.config_value.specs.Spelled.{is_spelled}
use Rattle.config_value.specs.Literals.{has_attribute, has_port}
use Rattle.state_space.specs.Sets.{has_number}
use Rattle.state_space.specs.Values.{has_value}
use Rattle.state_space.specs.Ports.{parted, allows}
use Rattle.state_space.specs.Made.{MadeInstance, domain_of, port_of_made}
use Rattle.state_space.specs.State.{State, number_made}

-- the value is one of the domain under an id
abbrev pub has_value_under : MadeInstance → ℕ → ℤ → Bool
has_value_under x a v = option_map_or (λ d. has_value d v) (domain_of x a) false

-- the port under an id may have the links, parted at the number of instances made
abbrev pub allows_under : ℕ → MadeInstance → ℕ → List ℕ → Bool
allows_under made x p links =
    option_map_or (λ q. allows q (parted made links)) (port_of_made x p) false

-- an instance is of a possible type, and has values and links that the made one may still have
abbrev pub covers_instance : Model → ℕ → MadeInstance → Instance → Bool
covers_instance m made x y =
    has_number x.kinds y.kind
    && list_all (λ a. has_value_under x a.id (value_of m y a.id)) (attributes_at m y.kind)
    && list_all (λ p. allows_under made x p.id (links_of m y p.id)) (ports_at m y.kind)

-- A configuration is covered: it can be spelled, has the made instances at least, and each of these
-- is one that the made one may still be.
unfoldable pub covers : Model → State → List Instance → Bool
covers m s c =
    is_spelled m c && nat_le (number_made s) (length c)
    && list_all (λ e. covers_instance m (number_made s) e.0 e.1) (zip s.made c)

-- ---- the same in sentences

-- an instance of the configuration is one that the made one may still be
pub record CoversInstance (m : Model) (made : ℕ) (x : MadeInstance) (y : Instance)
    : Type 0 where
  pub kind : IsTrue (has_number x.kinds y.kind)
  pub values : (a : ℕ) → IsTrue (has_attribute m y.kind a)
      → IsTrue (has_value_under x a (value_of m y a))
  pub links : (p : ℕ) → IsTrue (has_port m y.kind p)
      → IsTrue (allows_under made x p (links_of m y p))

-- the configuration can be spelled, has the made instances at least, and each of these is covered
pub record Covers (m : Model) (s : State) (c : List Instance) : Type 0 where
  pub spelled : IsTrue (is_spelled m c)
  pub enough : number_made s ≤ length c
  pub each : (i : ℕ) (x : MadeInstance) (y : Instance) → IsAt s.made i x → IsAt c i y
      → CoversInstance m (number_made s) x y

-- A configuration is covered exactly where the sentences hold.
abbrev pub CoversSentences : Type 0
CoversSentences =
    (m : Model) (s : State) (c : List Instance) → IsTrue (covers m s c) ↔ Covers m s c
