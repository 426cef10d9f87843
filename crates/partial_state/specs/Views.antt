-- How the parts of a state are stored.
use Rattle.std.specs.Prelude.{IsTrue}
use Rattle.domain_store.specs.Intervals.{are_intervals}
use Rattle.port_wildcards.specs.declared.port_domain.PortDomain.{PortDomain}
use Rattle.state_space.specs.Values.{Values, Numbers, Words}
use Rattle.state_space.specs.Ports.{PortState}
use Rattle.partial_state.specs.Masks.{words_of, instances_of, IsWordMask}
use Rattle.partial_state.specs.declared.values.Domain.{Domain}
use Rattle.partial_state.specs.declared.values.Domain.TheVariants as stored

-- the values of a stored domain
abbrev pub values_of_domain : Domain → Values
values_of_domain (stored.Numbers rs) = Numbers rs
values_of_domain (stored.Words mask) = Words (words_of mask)

-- what a stored port may link
abbrev pub state_of_port : PortDomain → PortState
state_of_port q = record {
  required = instances_of q.required;
  possible = instances_of q.possible;
  fresh_low = q.fresh_low;
  fresh_high = q.fresh_high;
}

-- numbers are stored as ascending intervals, and words as a mask
abbrev pub IsStored : Domain → Type 0
IsStored (stored.Numbers rs) = IsTrue (are_intervals rs)
IsStored (stored.Words mask) = IsWordMask mask
