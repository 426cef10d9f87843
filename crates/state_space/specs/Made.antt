-- What is known of a made instance.
use Rattle.std.specs.Prelude.{ℕ, List, slice_index_or, None}
use Rattle.std.specs.declared.option.Option.{Option}
use Rattle.state_space.specs.Values.{Values}
use Rattle.state_space.specs.Ports.{PortState}

-- A made instance: its possible types, and two tables whose place k is the entry of id k. These are
-- the values that its attributes may have, and the links that its ports may have.
pub record MadeInstance : Type 0 where
  pub kinds : List ℕ
  pub domains : List (Option Values)
  pub ports : List (Option PortState)

-- the domain of an attribute, by its id
abbrev pub domain_of : MadeInstance → ℕ → Option Values
domain_of x a = slice_index_or x.domains a None

-- what a port may link, by its id
abbrev pub port_of_made : MadeInstance → ℕ → Option PortState
port_of_made x p = slice_index_or x.ports p None
