-- What a partial state is: the instances made so far, and what each may still be.
use Rattle.std.specs.Prelude.{◌≡◌, ℕ, ℤ, pos, zero, suc, Bool, false, not, nat_le, nat_lt, IsTrue, List, [], ◌∷◌, length, map, slice_get, slice_set, Some, None}
use Rattle.std.specs.declared.option.Option.{Option}
use Rattle.std.specs.Option.{option_map_or, option_and_then, is_some}
use Rattle.std.specs.List.{list_all, list_any, filter, range_with_len}
use Rattle.base_laws.specs.Places.{IsAt}
use Rattle.prod_model.specs.declared.model.Model.{Model}
use Rattle.prod_model.specs.declared.model.AttrDecl.{AttrDecl}
use Rattle.prod_model.specs.declared.model.PortDecl.{PortDecl}
use Rattle.prod_model.specs.declared.model.Domain.{Domain}
use Rattle.prod_model.specs.declared.model.Domain.TheVariants as domain
use Rattle.prod_model.specs.Limits.{is_between, most_links, most_types}
use Rattle.prod_model.specs.Forest.{is_a, is_leaf, type_numbers}
use Rattle.prod_model.specs.Taxonomy.{all_new_declarations}
use Rattle.config_value.specs.Literals.{has_attribute, has_port}
use Rattle.state_space.specs.Sets.{is_set_below}
use Rattle.state_space.specs.Values.{Values, Numbers, Words, has_value, has_words, least, greatest, are_values, is_empty}
use Rattle.state_space.specs.Ports.{PortState, is_port}
use Rattle.state_space.specs.Made.{MadeInstance, domain_of, port_of_made}

-- The made instances, numbered from 0. Beside them, for each attribute id the leaf types that have
-- it, and for each port id likewise: no change touches these, and they tell which domains of an
-- instance count once its types are known.
pub record State : Type 0 where
  pub attribute_types : List (List ℕ)
  pub port_types : List (List ℕ)
  pub made : List MadeInstance

-- ---- what stands where

-- how many instances are made
abbrev pub number_made : State → ℕ
number_made s = length s.made

-- the possible types of instance i; none where it is not made
abbrev pub kinds_at : State → ℕ → List ℕ
kinds_at s i = option_map_or (λ x. x.kinds) (slice_get s.made i) []

-- the domain of an attribute of instance i
abbrev pub domain_at : State → ℕ → ℕ → Option Values
domain_at s i a = option_and_then (λ x. domain_of x a) (slice_get s.made i)

-- what a port of instance i may link
abbrev pub port_at : State → ℕ → ℕ → Option PortState
port_at s i p = option_and_then (λ x. port_of_made x p) (slice_get s.made i)

-- the least value of an attribute of instance i; 0 where it has no domain
abbrev pub low_at : State → ℕ → ℕ → ℤ
low_at s i a = option_map_or least (domain_at s i a) (pos 0)

-- the greatest value of an attribute of instance i; 0 where it has no domain
abbrev pub high_at : State → ℕ → ℕ → ℤ
high_at s i a = option_map_or greatest (domain_at s i a) (pos 0)

-- an attribute of instance i may have the value
abbrev pub allows_at : State → ℕ → ℕ → ℤ → Bool
allows_at s i a v = option_map_or (λ d. has_value d v) (domain_at s i a) false

-- ---- one part changed, and all others kept

-- the element at place i changed
abbrev pub changed_at : {X : Type 0} → ℕ → (X → X) → List X → List X
changed_at i f [] = []
changed_at zero f (x ∷ xs) = f x ∷ xs
changed_at (suc i) f (x ∷ xs) = x ∷ changed_at i f xs

-- instance i changed
abbrev pub with_made : ℕ → (MadeInstance → MadeInstance) → State → State
with_made i f s = record s { made = changed_at i f s.made }

-- instance i with other possible types
abbrev pub with_kinds : ℕ → List ℕ → State → State
with_kinds i kinds = with_made i (λ x. record x { kinds = kinds })

-- instance i with another domain of an attribute
abbrev pub with_domain : ℕ → ℕ → Values → State → State
with_domain i a d = with_made i (λ x. record x { domains = slice_set x.domains a (Some d) })

-- instance i with other links that a port may have
abbrev pub with_port : ℕ → ℕ → PortState → State → State
with_port i p q = with_made i (λ x. record x { ports = slice_set x.ports p (Some q) })

-- ---- the states of a problem

-- the leaf types that pass
abbrev pub leaves_that : Model → (ℕ → Bool) → List ℕ
leaves_that m test = filter test (filter (is_leaf m) (type_numbers m.types))

-- the leaves that are a type or under it
abbrev pub leaves_under : Model → ℕ → List ℕ
leaves_under m t = leaves_that m (λ u. is_a m u t)

-- the first declarations of the attributes, each at the place of its id
abbrev pub first_attributes : Model → List AttrDecl
first_attributes m = all_new_declarations (λ d. d.attributes) (λ d. d.name) m.types

-- the first declarations of the ports, each at the place of its id
abbrev pub first_ports : Model → List PortDecl
first_ports m = all_new_declarations (λ d. d.ports) (λ d. d.name) m.types

-- for each attribute id the leaf types that have it
abbrev pub attribute_types_of : Model → List (List ℕ)
attribute_types_of m =
    map (λ a. leaves_that m (λ t. has_attribute m t a))
    (range_with_len 0 (length (first_attributes m)))

-- for each port id the leaf types that have it
abbrev pub port_types_of : Model → List (List ℕ)
port_types_of m =
    map (λ p. leaves_that m (λ t. has_port m t p)) (range_with_len 0 (length (first_ports m)))

-- the values of a declaration: the numbers of a range, or the places of all words
abbrev pub values_of : Domain → Values
values_of (domain.Range low high) = Numbers (record { low = low; high = high } ∷ [])
values_of (domain.Words words) = Words (range_with_len 0 (length words))

-- the whole domain of an attribute: that of its first declaration
abbrev pub whole_domain : Model → ℕ → Option Values
whole_domain m a =
    option_map_or (λ d. Some (values_of d.domain)) (slice_get (first_attributes m) a) None

-- a value of the whole domain
abbrev pub is_whole_value : Model → ℕ → ℤ → Bool
is_whole_value m a v = option_map_or (λ d. has_value d v) (whole_domain m a) false

-- a domain has values, all of the whole domain, and in the same form
pub record IsDomainOf (m : Model) (a : ℕ) (d : Values) : Type 0 where
  pub formed : IsTrue (are_values d)
  pub form : has_words d ≡ option_map_or has_words (whole_domain m a) false
  pub whole : (v : ℤ) → IsTrue (has_value d v) → IsTrue (is_whole_value m a v)

-- a port may link made instances alone, and no more later ones than the limit
pub record IsPortOf (made : ℕ) (q : PortState) : Type 0 where
  pub formed : IsTrue (is_port q)
  pub to_made : IsTrue (list_all (λ j. nat_lt j made) q.possible)
  pub few : IsTrue (nat_le q.fresh_high most_links)

-- An instance of a state in which so many are made has possible types, which are leaves and ascend,
-- and the domains and ports of each of them. Both tables are as long as there are first
-- declarations.
pub record IsMadeOf (m : Model) (made : ℕ) (x : MadeInstance) : Type 0 where
  pub formed : IsTrue (is_set_below most_types x.kinds)
  pub each_attribute : length x.domains ≡ length (first_attributes m)
  pub each_port : length x.ports ≡ length (first_ports m)
  pub some : IsTrue (not (is_empty x.kinds))
  pub leaves : IsTrue (list_all (is_leaf m) x.kinds)
  pub has_domains : (a : ℕ) → IsTrue (list_any (λ t. has_attribute m t a) x.kinds)
      → IsTrue (is_some (domain_of x a))
  pub has_ports : (p : ℕ) → IsTrue (list_any (λ t. has_port m t p) x.kinds)
      → IsTrue (is_some (port_of_made x p))
  pub domains : (a : ℕ) (d : Values) → domain_of x a ≡ Some d → IsDomainOf m a d
  pub ports : (p : ℕ) (q : PortState) → port_of_made x p ≡ Some q → IsPortOf made q

-- A state of a problem. The possible types of instance 0 are under the root type.
pub record IsState (m : Model) (s : State) : Type 0 where
  pub attribute_types : s.attribute_types ≡ attribute_types_of m
  pub port_types : s.port_types ≡ port_types_of m
  pub size : IsTrue (is_between 1 m.instances (number_made s))
  pub root : IsTrue (list_all (λ t. is_a m t m.root) (kinds_at s 0))
  pub each : (i : ℕ) (x : MadeInstance) → IsAt s.made i x → IsMadeOf m (number_made s) x
