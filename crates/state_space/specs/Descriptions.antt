-- The literals that describe a made instance: what a state says of it.
use Rattle.std.specs.Prelude.{ℕ, ℤ, pos, ◌+◌, ◌+ℤ◌, ◌-ℤ◌, nat_abs, not, List, [], ◌∷◌, ◌++◌, map, length, slice_index_or, if◌then◌else◌}
use Rattle.std.specs.Option.{option_map_or}
use Rattle.std.specs.List.{filter, flat_map, range_with_len}
use Rattle.prod_model.specs.declared.model.Model.{Model}
use Rattle.prod_model.specs.Taxonomy.{attributes_at, ports_at}
use Rattle.config_value.specs.declared.literal.Literal.{Literal}
use Rattle.config_value.specs.declared.literal.Literal.TheVariants.{Made, NotKind, AtMost, AtLeast, ValueIsNot, Linked, NotLinked, LinksAtMost, LinksAtLeast, FreshAtMost, FreshAtLeast}
use Rattle.state_space.specs.Sets.{has_number}
use Rattle.state_space.specs.Values.{Values, has_value, least, greatest}
use Rattle.state_space.specs.Ports.{PortState}
use Rattle.state_space.specs.State.{State, number_made, kinds_at, domain_at, port_at, leaves_that}
use Rattle.state_space.specs.Entails.{all_have_attribute, all_have_port}

-- Of the types: instance i is made, and is of none of the leaves that it can't be of.
abbrev pub kinds_description : Model → State → ℕ → List Literal
kinds_description m s i =
    Made i ∷ map (λ t. NotKind i t) (leaves_that m (λ t. not (has_number (kinds_at s i) t)))

-- the whole numbers from one to below another
abbrev pub numbers_between : ℤ → ℤ → List ℤ
numbers_between low high =
    map (λ k. low +ℤ pos k) (range_with_len 0 (nat_abs (high -ℤ low)))

-- the values between the ends that are missing, ascending
abbrev pub gaps : Values → List ℤ
gaps d = filter (λ v. not (has_value d v)) (numbers_between (least d) (greatest d))

-- the ends of the values, and the gaps between them
abbrev pub values_description : ℕ → ℕ → Values → List Literal
values_description i a d =
    AtLeast i a (least d) ∷ AtMost i a (greatest d) ∷ map (λ v. ValueIsNot i a v) (gaps d)

-- Of an attribute: its values, where each possible type of instance i has it. Else no literal of
-- the attribute is entailed, and nothing is said.
abbrev pub attribute_description : Model → State → ℕ → ℕ → List Literal
attribute_description m s i a =
    if all_have_attribute m s i a then option_map_or (values_description i a) (domain_at s i a) []
    else []

-- the made instances that must be linked, those that can't be, and how many later ones are
abbrev pub links_description : ℕ → ℕ → ℕ → PortState → List Literal
links_description made i p q =
    map (λ j. Linked i p j) q.required
    ++ map (λ j. NotLinked i p j)
    (filter (λ j. not (has_number q.possible j)) (range_with_len 0 made))
    ++ FreshAtLeast i p made q.fresh_low ∷ FreshAtMost i p made q.fresh_high ∷ []

-- Of a port: its links, where each possible type of instance i has it.
abbrev pub port_description : Model → State → ℕ → ℕ → List Literal
port_description m s i p =
    if all_have_port m s i p
    then option_map_or (links_description (number_made s) i p) (port_at s i p) [] else []

-- how many links there are in all
abbrev pub count_description : ℕ → ℕ → PortState → List Literal
count_description i p q =
    LinksAtLeast i p (length q.required + q.fresh_low)
    ∷ LinksAtMost i p (length q.possible + q.fresh_high) ∷ []

-- Of the number of a port's links: its bounds, where each possible type of instance i has the port.
-- They mean the same when another instance is made.
abbrev pub counts_description : Model → State → ℕ → ℕ → List Literal
counts_description m s i p =
    if all_have_port m s i p then option_map_or (count_description i p) (port_at s i p) [] else []

-- the first of the possible types of instance i: what all of them have, it has
abbrev pub first_kind : State → ℕ → ℕ
first_kind s i = slice_index_or (kinds_at s i) 0 0

-- The description of instance i: of its types, and of what each possible type has, in the order
-- of the first one.
unfoldable pub description : Model → State → ℕ → List Literal
description m s i =
    kinds_description m s i
    ++ flat_map (λ a. attribute_description m s i a.id) (attributes_at m (first_kind s i))
    ++ flat_map (λ p. port_description m s i p.id) (ports_at m (first_kind s i))
