-- Which models are valid, and which orders are valid for a model.
use Rattle.std.specs.Prelude.{ℕ, int_le, Bool, true, false, not, ◌==◌, ◌&&◌, nat_le, IsTrue, List, ◌++◌, map, length, is_none, sum_by}
use Rattle.std.specs.declared.option.Option.{Option}
use Rattle.std.specs.Option.{option_map_or, option_and_then, option_map}
use Rattle.std.specs.List.{list_any, list_all, find}
use Rattle.prod_model.specs.declared.model.Model.{Model}
use Rattle.prod_model.specs.declared.model.Order.{Order}
use Rattle.prod_model.specs.declared.model.TypeDecl.{TypeDecl}
use Rattle.prod_model.specs.declared.model.AttrDecl.{AttrDecl}
use Rattle.prod_model.specs.declared.model.PortDecl.{PortDecl}
use Rattle.prod_model.specs.declared.model.PortAt.{PortAt}
use Rattle.prod_model.specs.declared.model.PortKind.{PortKind}
use Rattle.prod_model.specs.declared.model.PortKind.TheVariants.{Part, Shared}
use Rattle.prod_model.specs.declared.model.Domain.{Domain}
use Rattle.prod_model.specs.declared.model.Domain.TheVariants.{Range, Words}
use Rattle.prod_model.specs.Limits
use Rattle.prod_model.specs.Limits.{is_within, is_between}
use Rattle.prod_model.specs.Names.{is_name, is_word, same_text, is_distinct, is_distinct_number}
use Rattle.prod_model.specs.Forest.{is_type, is_a, is_forest, type_numbers}
use Rattle.prod_model.specs.Taxonomy.{Named, declarations_of, is_declared_above, attributes_of, ports_of, attributes_at, declared_ports_at, words_of, port_named, inverse_of}
use Rattle.prod_model.specs.ExprBounds.{is_truth_at, is_number_at}

-- ---- each declaration by itself

-- a list of words has 1 to 64 of them
abbrev pub has_few_words : Domain → Bool
has_few_words (Range low high) = true
has_few_words (Words words) = is_between 1 Limits.most_words (length words)

-- each list of words in a type's declarations has 1 to 64 of them
abbrev pub has_few_words_of : TypeDecl → Bool
has_few_words_of d = list_all (λ a. has_few_words a.domain) d.attributes

-- No list is longer than its limit, and none of words is empty.
unfoldable pub has_short_lists : Model → Bool
has_short_lists m =
    nat_le (length m.types) Limits.most_types && nat_le (length m.rules) Limits.most_rules
    && nat_le (length m.bounds) Limits.most_bounds
    && nat_le (sum_by (λ d. length d.attributes) m.types) Limits.most_attribute_declarations
    && nat_le (sum_by (λ d. length d.ports) m.types) Limits.most_port_declarations
    && list_all has_few_words_of m.types

-- an attribute's name and its words have their forms
abbrev pub has_formed_words : AttrDecl → Bool
has_formed_words a = is_name a.name && list_all is_word (words_of a.domain)

-- the names of a type and of what it declares, and its words, have their forms
abbrev pub has_formed_names_of : TypeDecl → Bool
has_formed_names_of d =
    is_name d.name && list_all has_formed_words d.attributes
    && list_all (λ p. is_name p.name) d.ports

-- Each name and each word has its form.
unfoldable pub has_formed_names : Model → Bool
has_formed_names m =
    list_all has_formed_names_of m.types && list_all (λ r. is_name r.name) m.rules

-- no name stands twice among a type's attributes and ports together, and no word twice in one list
abbrev pub has_distinct_names_of : TypeDecl → Bool
has_distinct_names_of d =
    is_distinct (map (λ a. a.name) d.attributes ++ map (λ p. p.name) d.ports)
    && list_all (λ a. is_distinct (words_of a.domain)) d.attributes

-- No name stands twice among the types, among one type's attributes and ports together, among the
-- rules or among one list of words.
unfoldable pub has_distinct_names : Model → Bool
has_distinct_names m =
    is_distinct (map (λ d. d.name) m.types) && is_distinct (map (λ r. r.name) m.rules)
    && list_all has_distinct_names_of m.types

-- the ends of a range are in order, and within the limits
abbrev pub has_ends : Domain → Bool
has_ends (Range low high) =
    is_within Limits.farthest_end low && is_within Limits.farthest_end high && int_le low high
has_ends (Words words) = true

-- a least and a greatest number of links or instances, in order
abbrev pub is_pair : ℕ → ℕ → Bool
is_pair low high = nat_le low high && nat_le high Limits.most_links

-- the ranges and the pairs that a type declares are in order, and within the limits
abbrev pub has_numbers_of : TypeDecl → Bool
has_numbers_of d =
    list_all (λ a. has_ends a.domain) d.attributes && list_all (λ p. is_pair p.low p.high) d.ports

-- Each number is within its limits, and the pairs are in order.
unfoldable pub has_numbers_in_limits : Model → Bool
has_numbers_in_limits m =
    is_between 1 Limits.most_instances m.instances && list_all (λ b. is_pair b.low b.high) m.bounds
    && list_all has_numbers_of m.types

-- every declaration is right by itself
pub record IsFormed (m : Model) : Type 0 where
  pub short_lists : IsTrue (has_short_lists m)
  pub formed_names : IsTrue (has_formed_names m)
  pub distinct_names : IsTrue (has_distinct_names m)
  pub numbers_in_limits : IsTrue (has_numbers_in_limits m)

-- ---- the types together

-- the parent of a declared type, if it has one, and the targets of its ports are numbers of types
abbrev pub knows_types : Model → TypeDecl → Bool
knows_types m d =
    option_map_or (is_type m) d.parent true && list_all (λ p. is_type m p.target) d.ports

-- Each parent and each target of a port is the number of a type.
unfoldable pub has_known_parents_and_targets : Model → Bool
has_known_parents_and_targets m = list_all (knows_types m) m.types

-- The root type, and the types of rules and of entries of `bounds`, are numbers of types.
unfoldable pub has_known_types : Model → Bool
has_known_types m =
    is_type m m.root && list_all (λ b. is_type m b.kind) m.bounds
    && list_all (λ r. is_type m r.kind) m.rules

-- the values of the first domain are values of the second one
abbrev pub narrows_domain : Domain → Domain → Bool
narrows_domain (Range low high) (Range wide_low wide_high) =
    int_le wide_low low && int_le high wide_high
narrows_domain (Words words) (Words wide) = list_all (λ w. list_any (same_text w) wide) words
narrows_domain _ _ = false

-- both are parts, or both are shared
abbrev pub same_kind : PortKind → PortKind → Bool
same_kind Part Part = true
same_kind Shared Shared = true
same_kind _ _ = false

-- what the parent of a declared type has under a name, if anything
abbrev pub inherited : {A : Type 0} → (List TypeDecl → ℕ → List (Named A)) → Model → TypeDecl
    → List ℕ → Option A
inherited entries m d name =
    option_map (λ e. e.what)
    (option_and_then (λ t. find (λ e. same_text e.name name) (entries m.types t)) d.parent)

-- No inherited port has its name, and its domain lies within that of the inherited attribute of
-- its name, if there is one.
abbrev pub attribute_narrows : Model → TypeDecl → AttrDecl → Bool
attribute_narrows m d a =
    is_none (inherited ports_of m d a.name)
    && option_map_or (λ b. narrows_domain a.domain b.domain) (inherited attributes_of m d a.name)
    true

-- of the kind of the wide port, with its pair within that one's and its target under that one's
abbrev pub narrows_port : Model → PortDecl → PortAt → Bool
narrows_port m p wide =
    same_kind p.kind wide.kind && nat_le wide.low p.low && nat_le p.high wide.high
    && is_a m p.target wide.target

-- No inherited attribute has its name, and it narrows the inherited port of its name, if there is
-- one.
abbrev pub port_narrows : Model → TypeDecl → PortDecl → Bool
port_narrows m d p =
    is_none (inherited attributes_of m d p.name)
    && option_map_or (narrows_port m p) (inherited ports_of m d p.name) true

-- each declaration of the type is right by what its parent has
abbrev pub has_narrowings_of : Model → TypeDecl → Bool
has_narrowings_of m d =
    list_all (attribute_narrows m d) d.attributes && list_all (port_narrows m d) d.ports

-- Every declaration of a name that the type inherits is a narrowing.
unfoldable pub has_narrowings : Model → Bool
has_narrowings m = list_all (has_narrowings_of m) m.types

-- at most 32 attributes and 16 ports, inherited ones included
abbrev pub has_room_at : Model → ℕ → Bool
has_room_at m t =
    nat_le (length (attributes_at m t)) Limits.most_attributes_of_type
    && nat_le (length (declared_ports_at m t)) Limits.most_ports_of_type

-- No type has too many attributes or ports.
unfoldable pub has_room : Model → Bool
has_room m = list_all (has_room_at m) (type_numbers m.types)

-- the types are a taxonomy: parents and targets are known, and inheritance narrows
pub record IsTaxonomy (m : Model) : Type 0 where
  pub known_parents : IsTrue (has_known_parents_and_targets m)
  pub forest : IsTrue (is_forest m)
  pub narrowings : IsTrue (has_narrowings m)
  pub room : IsTrue (has_room m)

-- ---- models and orders

-- No type has two entries of `bounds`.
unfoldable pub has_one_bound_each : Model → Bool
has_one_bound_each m = is_distinct_number (map (λ b. b.kind) m.bounds)

-- Every rule is a truth without fault at its type.
unfoldable pub has_faultless_rules : Model → Bool
has_faultless_rules m = list_all (λ r. is_truth_at m r.kind r.holds) m.rules

-- all that a product model has to be, but for its rules and its inverses
pub record IsDeclared (m : Model) : Type 0 where
  pub formed : IsFormed m
  pub known_types : IsTrue (has_known_types m)
  pub one_bound_each : IsTrue (has_one_bound_each m)
  pub taxonomy : IsTaxonomy m

-- both are parts
abbrev pub are_parts : PortKind → PortKind → Bool
are_parts Part Part = true
are_parts _ _ = false

-- The port of the target names the declared port of type t back: the inverse that its own first
-- declaration names is the declared port. And they are not both parts.
abbrev pub is_named_back : Model → ℕ → PortDecl → PortAt → Bool
is_named_back m t d q =
    option_map_or (λ p. option_map_or (λ id. id == p.id) (inverse_of m q.id) false)
    (port_named m t d.name) false
    && not (are_parts d.kind q.kind)

-- A declaration of type t that names an inverse is new there, and its target has a port of that
-- name, which names it back.
abbrev pub has_right_inverse : Model → ℕ → PortDecl → Bool
has_right_inverse m t d =
    option_map_or (λ name. not (is_declared_above (λ d. d.ports) (λ d. d.name) m.types t d.name)
    && option_map_or (is_named_back m t d) (port_named m d.target name) false) d.inverse true

-- the declarations of ports of a type
abbrev pub port_declarations : Model → ℕ → List PortDecl
port_declarations m t = declarations_of (λ d. d.ports) (λ d. d.name) m.types t

-- Ports are each other's inverse where one names the other.
unfoldable pub has_right_inverses : Model → Bool
has_right_inverses m =
    list_all (λ t. list_all (has_right_inverse m t) (port_declarations m t)) (type_numbers m.types)

-- all that a product model has to be
pub record IsValid (m : Model) : Type 0 where
  pub declared : IsDeclared m
  pub faultless_rules : IsTrue (has_faultless_rules m)
  pub right_inverses : IsTrue (has_right_inverses m)

-- an order without fault, for a valid model
pub record IsValidOrder (m : Model) (o : Order) : Type 0 where
  -- no list is longer than its limit
  pub few : IsTrue (nat_le (length o.requests) Limits.most_requests
      && nat_le (length o.criteria) Limits.most_criteria)
  -- each name has its form
  pub formed_names : IsTrue (list_all (λ r. is_name r.name) o.requests
      && list_all (λ r. is_name r.name) o.criteria)
  -- no name stands twice among the requests, or among the criteria
  pub distinct_names : IsTrue (is_distinct (map (λ r. r.name) o.requests)
      && is_distinct (map (λ r. r.name) o.criteria))
  -- every request is a truth without fault at the root type, and every criterion a number
  pub requests : IsTrue (list_all (λ r. is_truth_at m m.root r.holds) o.requests)
  pub criteria : IsTrue (list_all (λ r. is_number_at m m.root r.value) o.criteria)
