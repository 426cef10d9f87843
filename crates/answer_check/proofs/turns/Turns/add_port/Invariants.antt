use Rattle.std.proofs.Common.{take}
use Rattle.answer_check.specs.steps.Turns.{ReadsMore, links_from}
use Rattle.answer_check.proofs.turns.Turns.add_port.Given as goal

-- the links so far are read
abbrev pub invariant-loop-j : goal.invariant-loop-j
invariant-loop-j l = ReadsMore l.fn.self (links_from l.from (take l.j-index l.links)) l.self
