-- Which literals a state entails, and which fit it.
use Rattle.std.specs.Prelude.{ℕ, zero, suc, ◌+◌, pos, ◌+ℤ◌, ◌-ℤ◌, int_le, Bool, false, not, ◌&&◌, ◌==◌, nat_lt, nat_le, length, slice_get, if◌then◌else◌, Some, None}
use Rattle.std.specs.declared.option.Option.{Option}
use Rattle.std.specs.Option.{option_map_or}
use Rattle.std.specs.List.{list_all, count_by}
use Rattle.prod_model.specs.declared.model.Model.{Model}
use Rattle.prod_model.specs.Forest.{is_a}
use Rattle.config_value.specs.declared.literal.Literal.{Literal}
use Rattle.config_value.specs.declared.literal.Literal.TheVariants.{Made, Kind, NotKind, AtMost, AtLeast, ValueIsNot, Linked, NotLinked, LinksAtMost, LinksAtLeast, FreshAtMost, FreshAtLeast}
use Rattle.state_space.specs.Made.{MadeInstance, domain_of, port_of_made}
use Rattle.state_space.specs.Ports.{PortState, is_closed}
use Rattle.state_space.specs.Sets.{has_number}
use Rattle.state_space.specs.Values.{Values, has_value, least, greatest}
use Rattle.config_value.specs.Literals.{has_attribute, has_port}
use Rattle.state_space.specs.State.{State, number_made}
use Rattle.state_space.specs.Generation.{can_generate, owes_instance}

-- instance i is made, and passes
abbrev pub at_made : State → ℕ → (MadeInstance → Bool) → Bool
at_made s i test = option_map_or test (slice_get s.made i) false

-- every possible type of the instance passes
abbrev pub all_kinds : State → ℕ → (ℕ → Bool) → Bool
all_kinds s i test = at_made s i (λ x. list_all test x.kinds)

-- every possible type of instance i has the attribute, and its domain passes
abbrev pub has_domain_that : Model → State → ℕ → ℕ → (Values → Bool) → Bool
has_domain_that m s i a test =
    at_made s i (λ x. list_all (λ t. has_attribute m t a) x.kinds
    && option_map_or test (domain_of x a) false)

-- every possible type of instance i has the port, and what it may link passes
abbrev pub has_port_that : Model → State → ℕ → ℕ → (PortState → Bool) → Bool
has_port_that m s i p test =
    at_made s i (λ x. list_all (λ t. has_port m t p) x.kinds
    && option_map_or test (port_of_made x p) false)

-- Whether what is left open forces the literal.
unfoldable pub entails : Model → State → Literal → Bool
entails m s (Made i) = nat_lt i (number_made s)
entails m s (Kind i t) = all_kinds s i (λ u. is_a m u t)
entails m s (NotKind i t) = all_kinds s i (λ u. not (is_a m u t))
entails m s (AtMost i a n) = has_domain_that m s i a (λ d. int_le (greatest d) n)
entails m s (AtLeast i a n) = has_domain_that m s i a (λ d. int_le n (least d))
entails m s (ValueIsNot i a n) = has_domain_that m s i a (λ d. not (has_value d n))
entails m s (Linked i p j) = has_port_that m s i p (λ q. has_number q.required j)
entails m s (NotLinked i p j) =
    has_port_that m s i p
    (λ q. if nat_lt j (number_made s) then not (has_number q.possible j) else is_closed q)
entails m s (LinksAtMost i p n) =
    has_port_that m s i p (λ q. nat_le (length q.possible + q.fresh_high) n)
entails m s (LinksAtLeast i p n) =
    has_port_that m s i p (λ q. nat_le n (length q.required + q.fresh_low))
entails m s (FreshAtMost i p from n) =
    has_port_that m s i p (λ q. nat_le (count_by (nat_le from) q.possible + q.fresh_high) n)
entails m s (FreshAtLeast i p from n) =
    has_port_that m s i p (λ q. nat_le n (count_by (nat_le from) q.required
    + (if nat_le from (number_made s) then q.fresh_low else 0)))

-- every possible type of instance i has the attribute
abbrev pub all_have_attribute : Model → State → ℕ → ℕ → Bool
all_have_attribute m s i a = all_kinds s i (λ t. has_attribute m t a)

-- every possible type of instance i has the port
abbrev pub all_have_port : Model → State → ℕ → ℕ → Bool
all_have_port m s i p = all_kinds s i (λ t. has_port m t p)

-- Whether the state can be narrowed by the literal: it speaks of what every possible type of a made
-- instance has, of links to made instances, and of later ones as all that are not made. `Made` of
-- the next number fits where that instance has to be made and can be.
unfoldable pub fits : Model → State → Literal → Bool
fits m s (Made i) = (i == number_made s) && can_generate m s && owes_instance m s
fits m s (Kind i t) = nat_lt i (number_made s)
fits m s (NotKind i t) = nat_lt i (number_made s)
fits m s (AtMost i a n) = all_have_attribute m s i a
fits m s (AtLeast i a n) = all_have_attribute m s i a
fits m s (ValueIsNot i a n) = all_have_attribute m s i a
fits m s (Linked i p j) = all_have_port m s i p && nat_lt j (number_made s)
fits m s (NotLinked i p j) = all_have_port m s i p && nat_lt j (number_made s)
fits m s (LinksAtMost i p n) = false
fits m s (LinksAtLeast i p n) = false
fits m s (FreshAtMost i p from n) = all_have_port m s i p && (from == number_made s)
fits m s (FreshAtLeast i p from n) = all_have_port m s i p && (from == number_made s)

-- The literal that holds where this one does not, of an instance that is there and has the
-- attribute or port. There is none where no literal says it.
abbrev pub opposite : Literal → Option Literal
opposite (Made i) = None
opposite (Kind i t) = Some (NotKind i t)
opposite (NotKind i t) = Some (Kind i t)
opposite (AtMost i a n) = Some (AtLeast i a (n +ℤ pos 1))
opposite (AtLeast i a n) = Some (AtMost i a (n -ℤ pos 1))
opposite (ValueIsNot i a n) = None
opposite (Linked i p j) = Some (NotLinked i p j)
opposite (NotLinked i p j) = Some (Linked i p j)
opposite (LinksAtMost i p n) = Some (LinksAtLeast i p (n + 1))
opposite (LinksAtLeast i p zero) = None
opposite (LinksAtLeast i p (suc n)) = Some (LinksAtMost i p n)
opposite (FreshAtMost i p from n) = Some (FreshAtLeast i p from (n + 1))
opposite (FreshAtLeast i p from zero) = None
opposite (FreshAtLeast i p from (suc n)) = Some (FreshAtMost i p from n)
