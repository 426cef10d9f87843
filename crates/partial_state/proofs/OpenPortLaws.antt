-- What passes of the first open port.
use Rattle.std.proofs.Common.{◌≡◌, Bool, false, refl, Some, None, Option}
use Rattle.std.specs.Option.{option_map_or, option_and_then}
use Rattle.prod_model.specs.declared.model.Model.{Model}
use Rattle.state_space.specs.Ports.{PortState}
use Rattle.state_space.specs.State.{State, port_at}
use Rattle.state_space.specs.Generation.{PortOf, first_open, open_port_passes}
use Rattle.partial_state.specs.steps.OpenPort.{open_port}

-- a test of the first open port is one of what it may link
pub open_that : (m : Model) (s : State) (test : PortState → Bool) → open_port_passes m s test ≡ option_map_or test (open_port m s) false
open_that m s test = by (first_open m s)
  where
    by : (o : Option PortOf) → option_map_or (λ at. option_map_or test (port_at s at.instance at.port) false) o false
        ≡ option_map_or test (option_and_then (λ (at : PortOf). port_at s at.instance at.port) o) false
    by None = refl
    by (Some at) = refl
