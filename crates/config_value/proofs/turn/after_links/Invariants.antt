use Rattle.std.proofs.Common.{◌≡◌, drop}
use Rattle.config_value.specs.steps.Turn.{turn_after, port_links}
use Rattle.config_value.proofs.turn.after_links.Given as goal

-- the links to come lead from this turn to where all of them lead from the first
abbrev pub invariant-loop-to : goal.invariant-loop-to
invariant-loop-to l =
    turn_after l.count l.turn (port_links l.from (drop l.to-index l.links))
    ≡ turn_after l.count l.start (port_links l.from l.links)
