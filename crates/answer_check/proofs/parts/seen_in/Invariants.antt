use Rattle.std.proofs.Common.{take}
use Rattle.config_value.specs.Shaped.{part_links}
use Rattle.answer_check.specs.steps.Seen.{HasSeen}
use Rattle.answer_check.proofs.parts.seen_in.Given as goal

-- the part links of the instances so far are seen
abbrev pub invariant-loop-i : goal.invariant-loop-i
invariant-loop-i l = HasSeen l.seen (part_links l.problem (take l.i l.c))
