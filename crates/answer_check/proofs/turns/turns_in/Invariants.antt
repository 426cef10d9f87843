use Rattle.std.proofs.Common.{take}
use Rattle.std.specs.List.{flat_map, enumerate_from}
use Rattle.answer_check.specs.steps.Turns.{HasTurns, links_from}
use Rattle.answer_check.proofs.turns.turns_in.Given as goal

-- the links of the instances so far are read
abbrev pub invariant-loop-i : goal.invariant-loop-i
invariant-loop-i l = HasTurns l.turns (flat_map (λ e. flat_map (links_from e.0) e.1.links) (take l.i (enumerate_from 0 l.c)))
