use Rattle.std.proofs.Common.{take}
use Rattle.answer_check.specs.steps.Seen.{SeesMore}
use Rattle.answer_check.proofs.parts.Seen.add_links.Given as goal

-- the links so far are seen
abbrev pub invariant-loop-j : goal.invariant-loop-j
invariant-loop-j l = SeesMore l.fn.self (take l.j-index l.links) l.self
