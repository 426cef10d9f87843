-- What every possible type of an instance has.
use Rattle.std.specs.Prelude.{ℕ, List, slice_get, if◌then◌else◌, None}
use Rattle.std.specs.declared.option.Option.{Option}
use Rattle.std.specs.Option.{option_and_then}
use Rattle.std.specs.List.{list_all}
use Rattle.state_space.specs.Made.{MadeInstance, domain_of, port_of_made}
use Rattle.state_space.specs.Values.{Values}
use Rattle.state_space.specs.Ports.{PortState}
use Rattle.state_space.specs.Sets.{has_number}
use Rattle.state_space.specs.State.{State}

-- The values of an attribute of an instance, where each of its possible types is one of those that
-- have the attribute. These stand at the place of its id.
abbrev pub shared_domain_of : List (List ℕ) → ℕ → MadeInstance → Option Values
shared_domain_of types a x =
    option_and_then (λ have. if list_all (has_number have) x.kinds then domain_of x a else None)
    (slice_get types a)

-- what a port of an instance may link, where each of its possible types has the port
abbrev pub shared_port_of : List (List ℕ) → ℕ → MadeInstance → Option PortState
shared_port_of types p x =
    option_and_then (λ have. if list_all (has_number have) x.kinds then port_of_made x p else None)
    (slice_get types p)

-- the values of an attribute that every possible type of instance i has
abbrev pub shared_domain : State → ℕ → ℕ → Option Values
shared_domain s i a = option_and_then (shared_domain_of s.attribute_types a) (slice_get s.made i)

-- what a port may link that every possible type of instance i has
abbrev pub shared_port : State → ℕ → ℕ → Option PortState
shared_port s i p = option_and_then (shared_port_of s.port_types p) (slice_get s.made i)
