-- What a generation logs, part by part.
use Rattle.std.specs.Prelude.{◌≡◌, ℕ, ◌≤◌, List, ◌++◌, length}
use Rattle.std.specs.declared.option.Option.{Option}
use Rattle.std.specs.List.{flat_map, enumerate_from}
use Rattle.base_laws.specs.Places.{IsAt}
use Rattle.state_space.specs.Ports.{PortState}
use Rattle.state_space.specs.Made.{MadeInstance}
use Rattle.state_space.specs.Undo.{OldValue, old_port}

-- the log has what it had, and maybe entries more
pub record Extends (log longer : List OldValue) : Type 0 where
  pub entries : List OldValue
  pub appended : longer ≡ log ++ entries

-- what is logged of the ports of instance i
abbrev pub old_ports : ℕ → List (Option PortState) → List OldValue
old_ports i ports = flat_map (old_port i) (enumerate_from 0 ports)

-- and of those of all instances
abbrev pub all_old_ports : List MadeInstance → List OldValue
all_old_ports made = flat_map (λ e. old_ports e.0 e.1.ports) (enumerate_from 0 made)

-- no instance has many ports
abbrev pub HaveFewPorts : List MadeInstance → Type 0
HaveFewPorts made = (i : ℕ) (x : MadeInstance) → IsAt made i x → length x.ports ≤ 256
