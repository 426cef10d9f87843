-- The first open port.
use Rattle.std.specs.declared.option.Option.{Option}
use Rattle.std.specs.Option.{option_and_then}
use Rattle.prod_model.specs.declared.model.Model.{Model}
use Rattle.state_space.specs.Ports.{PortState}
use Rattle.state_space.specs.State.{State, port_at}
use Rattle.state_space.specs.Generation.{first_open}

-- what the first open port may link
abbrev pub open_port : Model → State → Option PortState
open_port m s = option_and_then (λ at. port_at s at.instance at.port) (first_open m s)
