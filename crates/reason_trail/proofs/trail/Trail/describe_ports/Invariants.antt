use Rattle.std.proofs.Common.{◌≡◌, ◌++◌, take}
use Rattle.std.specs.List.{flat_map}
use Rattle.state_space.specs.Descriptions.{port_description}
use Rattle.reason_trail.proofs.trail.Trail.describe_ports.Given as goal

-- what the ports so far add is appended
abbrev pub invariant-loop-port : goal.invariant-loop-port
invariant-loop-port l = l.into ≡ l.fn.into ++ flat_map (λ x. port_description l.self.job.model l.self.state l.i x.id) (take l.port-index l.port-items)
