use Rattle.std.proofs.Common.{◌≡◌, drop}
use Rattle.config_value.specs.steps.Turn.{turn_after, links_from}
use Rattle.config_value.proofs.turn.after_instances.Given as goal

-- the instances to come lead from this turn to where all of them lead from 1
abbrev pub invariant-loop-i : goal.invariant-loop-i
invariant-loop-i l =
    turn_after l.count l.turn (links_from l.i (drop l.i l.instances))
    ≡ turn_after l.count 1 (links_from 0 l.instances)
