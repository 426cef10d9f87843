use Rattle.std.proofs.Common.{take}
use Rattle.std.specs.List.{flat_map}
use Rattle.answer_check.specs.steps.Turns.{ReadsMore, links_from}
use Rattle.answer_check.proofs.turns.Turns.add_instance.Given as goal

-- the links of the ports so far are read
abbrev pub invariant-loop-links : goal.invariant-loop-links
invariant-loop-links l = ReadsMore l.fn.self (flat_map (links_from l.from) (take l.links-index l.instance.links)) l.self
