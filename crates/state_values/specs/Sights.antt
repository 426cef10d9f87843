-- What a state tells of types, links and values of its made instances, with the literals that show
-- it.
use Rattle.std.specs.Prelude.{ℕ, ℤ, pos, ◌-◌, Bool, ◌&&◌, ◌==◌, List, [], ◌∷◌, if◌then◌else◌, Some, None}
use Rattle.std.specs.declared.option.Option.{Option}
use Rattle.std.specs.Option.{option_map_or, option_and_then}
use Rattle.std.specs.Ordering.{int_eq}
use Rattle.std.specs.List.{list_any, list_all, range_with_len}
use Rattle.prod_model.specs.declared.model.Model.{Model}
use Rattle.prod_model.specs.declared.model.AttrAt.{AttrAt}
use Rattle.prod_model.specs.declared.model.Domain.TheVariants as domain
use Rattle.prod_model.specs.Forest.{is_a, is_leaf, type_numbers}
use Rattle.prod_model.specs.Taxonomy.{attribute_of}
use Rattle.config_value.specs.declared.literal.Literal.TheVariants as literal
use Rattle.state_space.specs.Sets.{has_number}
use Rattle.state_space.specs.Ports.{PortState}
use Rattle.state_space.specs.State.{State, number_made, kinds_at, low_at, high_at, allows_at, port_at}
use Rattle.state_values.specs.Kleene.{Kleene, True, False, Open}
use Rattle.state_values.specs.Ranges.{Range}
use Rattle.state_values.specs.Tallies.{Share, Rest}

-- the numbers of the made instances
abbrev pub made_numbers : State → List ℕ
made_numbers s = range_with_len 0 (number_made s)

-- a port that links nothing
abbrev pub no_port : PortState
no_port = record { required = []; possible = []; fresh_low = 0; fresh_high = 0 }

-- what a port of instance i may link; nothing where it has no such port
abbrev pub port_state : State → ℕ → ℕ → PortState
port_state s i p = option_map_or (λ q. q) (port_at s i p) no_port

-- ---- types, links and values

-- every possible type of the instance is under the type
abbrev pub is_surely_under : Model → State → ℕ → ℕ → Bool
is_surely_under m s u i = list_all (λ t. is_a m t u) (kinds_at s i)

-- some possible type is
abbrev pub is_maybe_under : Model → State → ℕ → ℕ → Bool
is_maybe_under m s u i = list_any (λ t. is_a m t u) (kinds_at s i)

-- instance i is under a type
abbrev pub under_type : Model → State → ℕ → ℕ → Kleene
under_type m s u i =
    if is_surely_under m s u i then True (literal.Kind i u ∷ [])
    else (if is_maybe_under m s u i then Open else False (literal.NotKind i u ∷ []))

-- a port of instance i links the made instance j
abbrev pub linked : State → ℕ → ℕ → ℕ → Kleene
linked s i p j = let q = port_state s i p in
    if has_number q.required j then True (literal.Linked i p j ∷ [])
    else (if has_number q.possible j then Open else False (literal.NotLinked i p j ∷ []))

-- no link of a port leads to an instance that isn't made yet
abbrev pub is_closed : State → ℕ → ℕ → Kleene
is_closed s i p =
    if (port_state s i p).fresh_high == 0
    then True (literal.FreshAtMost i p (number_made s) 0 ∷ [])
    else Open

-- the value of an attribute of instance i
abbrev pub value_range : State → ℕ → ℕ → Range
value_range s a i = let low = low_at s i a in let high = high_at s i a in record {
  low = record { number = low; by = literal.AtLeast i a low ∷ [] };
  high = record { number = high; by = literal.AtMost i a high ∷ [] };
}

-- the domain of an attribute of instance i is the word alone, or lacks it
abbrev pub has_word : State → ℕ → ℕ → ℕ → Kleene
has_word s i a w =
    if int_eq (low_at s i a) (pos w) && int_eq (high_at s i a) (pos w)
    then True (literal.AtLeast i a (pos w) ∷ literal.AtMost i a (pos w) ∷ [])
    else (if allows_at s i a (pos w) then Open else False (literal.ValueIsNot i a (pos w) ∷ []))

-- ---- what made instances add to a sum

-- the least number of an attribute's range at a type
abbrev pub least_at : Model → ℕ → ℕ → Option ℤ
least_at m u a = option_and_then (λ (q : AttrAt). elim q.domain [
  | domain.Range low high ↦ Some low
  | domain.Words words ↦ None
]) (attribute_of m u a)

-- the greatest number of an attribute's range at a type
abbrev pub greatest_at : Model → ℕ → ℕ → Option ℤ
greatest_at m u a = option_and_then (λ (q : AttrAt). elim q.domain [
  | domain.Range low high ↦ Some high
  | domain.Words words ↦ None
]) (attribute_of m u a)

-- the number, and 0 where there is none
abbrev pub or_zero : Option ℤ → ℤ
or_zero n = option_map_or (λ k. k) n (pos 0)

-- a counted instance adds 1
abbrev pub one : Kleene → Share
one counted = record {
  counted = counted;
  low = pos 1;
  high = pos 1;
  least = pos 1;
  greatest = pos 1;
  at_least = λ n. [];
  at_most = λ n. [];
}

-- 1 where it is so, and else 0
abbrev pub one_if : Bool → ℤ
one_if b = if b then pos 1 else pos 0

-- a counted instance j adds 1 where it is under type u
abbrev pub one_under : Model → State → ℕ → Kleene → ℕ → Share
one_under m s u counted j = record {
  counted = counted;
  low = one_if (is_surely_under m s u j);
  high = one_if (is_maybe_under m s u j);
  least = pos 0;
  greatest = pos 1;
  at_least = λ n. literal.Kind j u ∷ [];
  at_most = λ n. literal.NotKind j u ∷ [];
}

-- a counted instance j adds its value of an attribute, and is under type u
abbrev pub value_under : Model → State → ℕ → ℕ → Kleene → ℕ → Share
value_under m s u a counted j = record {
  counted = counted;
  low = low_at s j a;
  high = high_at s j a;
  least = or_zero (least_at m u a);
  greatest = or_zero (greatest_at m u a);
  at_least = λ n. literal.AtLeast j a n ∷ [];
  at_most = λ n. literal.AtMost j a n ∷ [];
}

-- a linked instance without possible types under the target isn't counted
abbrev pub linked_under : Model → State → ℕ → ℕ → ℕ → ℕ → Kleene
linked_under m s i p target j =
    if is_maybe_under m s target j then linked s i p j
    else False (literal.NotKind j target ∷ [])

-- ---- what instances add that aren't made yet

-- the links of a port to instances that aren't made yet, each of which adds a number from low to
-- high
abbrev pub fresh_rest : State → ℕ → ℕ → ℤ → ℤ → Rest
fresh_rest s i p low high = let q = port_state s i p in record {
  fewest = q.fresh_low;
  most = q.fresh_high;
  low = low;
  high = high;
  more = if q.fresh_low == 0 then []
      else literal.FreshAtLeast i p (number_made s) q.fresh_low ∷ [];
  fewer = literal.FreshAtMost i p (number_made s) q.fresh_high ∷ [];
}

-- the instances that may still be made, each of which adds a number from low to high, or isn't
-- counted
abbrev pub unmade_rest : Model → State → ℤ → ℤ → Rest
unmade_rest m s low high = record {
  fewest = 0;
  most = m.instances - number_made s;
  low = low;
  high = high;
  more = [];
  fewer = [];
}

-- some leaf is under both types
abbrev pub share_leaf : Model → ℕ → ℕ → Bool
share_leaf m u target =
    list_any (λ t. is_leaf m t && is_a m t u && is_a m t target) (type_numbers m.types)
