-- The laws of descriptions: they are entailed, and what has them is covered.
use Rattle.std.specs.Prelude.{◌≡◌, ℕ, ◌+◌, ◌<◌, ◌≤◌, IsTrue, List, length, Some}
use Rattle.std.specs.List.{list_all}
use Rattle.base_laws.specs.Places.{IsAt}
use Rattle.prod_model.specs.declared.model.Model.{Model}
use Rattle.prod_model.specs.Forest.{is_leaf}
use Rattle.prod_model.specs.Valid.{IsValid}
use Rattle.config_value.specs.declared.configuration.Instance.{Instance}
use Rattle.config_value.specs.declared.literal.Literal.{Literal}
use Rattle.config_value.specs.Value.{value_of, links_of}
use Rattle.config_value.specs.Satisfies.{satisfies}
use Rattle.config_value.specs.Literals.{has_literal, has_attribute, has_port}
use Rattle.state_space.specs.Sets.{has_number}
use Rattle.state_space.specs.Ports.{PortState, parted, allows}
use Rattle.state_space.specs.State.{State, IsState, number_made, kinds_at, allows_at, port_at}
use Rattle.state_space.specs.Covers.{Covers}
use Rattle.state_space.specs.Entails.{entails, all_have_attribute, all_have_port}
use Rattle.state_space.specs.Unshared.{IsWide}
use Rattle.state_space.specs.Descriptions.{kinds_description, attribute_description, port_description, counts_description, description}

-- the state entails each of the literals
abbrev pub entails_all : Model → State → List Literal → Type 0
entails_all m s literals = IsTrue (list_all (entails m s) literals)

-- each of the literals holds in the configuration
abbrev pub HasAll : Model → List Instance → List Literal → Type 0
HasAll m c literals = IsTrue (list_all (has_literal m c) literals)

-- What a state says of a made instance, it entails.
pub record AreEntailed (m : Model) (s : State) (i : ℕ) : Type 0 where
  pub kinds : entails_all m s (kinds_description m s i)
  pub attribute : (a : ℕ) → entails_all m s (attribute_description m s i a)
  pub port : (p : ℕ) → entails_all m s (port_description m s i p)
  pub counts : (p : ℕ) → entails_all m s (counts_description m s i p)
  pub all : entails_all m s (description m s i)

-- So it is of each made instance of a state of the problem.
abbrev pub DescriptionIsEntailed : Type 0
DescriptionIsEntailed =
    (m : Model) (s : State) (i : ℕ) → IsState m s → i < number_made s → AreEntailed m s i

-- An instance of a leaf type that has the description of the types is of a possible one.
abbrev pub KindsAreDescribed : Type 0
KindsAreDescribed =
    (m : Model) (s : State) (i : ℕ) (c : List Instance) (x : Instance)
    → HasAll m c (kinds_description m s i) → IsAt c i x → IsTrue (is_leaf m x.kind)
    → x.kind < length m.types → IsTrue (has_number (kinds_at s i) x.kind)

-- One that has the description of an attribute, and has the attribute, has a possible value.
abbrev pub AttributeIsDescribed : Type 0
AttributeIsDescribed =
    (m : Model) (s : State) (i a : ℕ) (c : List Instance) (x : Instance) → IsState m s
    → IsTrue (all_have_attribute m s i a) → HasAll m c (attribute_description m s i a)
    → IsAt c i x → IsTrue (has_attribute m x.kind a) → IsTrue (allows_at s i a (value_of m x a))

-- One that has the description of a port, and has the port, has possible links.
abbrev pub PortIsDescribed : Type 0
PortIsDescribed =
    (m : Model) (s : State) (i p : ℕ) (q : PortState) (c : List Instance) (x : Instance)
    → IsState m s → IsTrue (all_have_port m s i p) → port_at s i p ≡ Some q
    → HasAll m c (port_description m s i p) → IsAt c i x → IsTrue (has_port m x.kind p)
    → IsTrue (allows q (parted (number_made s) (links_of m x p)))

-- One that has the description of the number of a port's links, and has the port, has as many.
abbrev pub CountsAreDescribed : Type 0
CountsAreDescribed =
    (m : Model) (s : State) (i p : ℕ) (q : PortState) (c : List Instance) (x : Instance)
    → IsTrue (all_have_port m s i p) → port_at s i p ≡ Some q
    → HasAll m c (counts_description m s i p) → IsAt c i x → IsTrue (has_port m x.kind p)
    → (length q.required + q.fresh_low ≤ length (links_of m x p))
    × (length (links_of m x p) ≤ length q.possible + q.fresh_high)

-- A configuration that satisfies the model and has the descriptions of all made instances is
-- covered, where the state is wide in what only some types have.
abbrev pub DescribedIsCovered : Type 0
DescribedIsCovered =
    (m : Model) (s : State) (c : List Instance) → IsValid m → IsState m s → IsWide m s
    → IsTrue (satisfies m c)
    → ((i : ℕ) → i < number_made s → HasAll m c (description m s i)) → Covers m s c
