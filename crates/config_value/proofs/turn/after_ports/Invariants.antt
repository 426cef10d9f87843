use Rattle.std.proofs.Common.{◌≡◌, drop}
use Rattle.config_value.specs.steps.Turn.{turn_after, instance_links}
use Rattle.config_value.proofs.turn.after_ports.Given as goal

-- the ports to come lead from this turn to where all of them lead from the first
abbrev pub invariant-loop-links : goal.invariant-loop-links
invariant-loop-links l =
    turn_after l.count l.turn (instance_links l.from (drop l.links-index l.ports))
    ≡ turn_after l.count l.start (instance_links l.from l.ports)
