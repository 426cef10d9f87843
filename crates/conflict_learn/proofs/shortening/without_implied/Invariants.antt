use Rattle.std.proofs.Common.{take}
use Rattle.conflict_learn.specs.steps.Shortened.{IsShortened}
use Rattle.conflict_learn.proofs.shortening.without_implied.Given as goal

-- what is kept is what is left of the literals so far
abbrev pub invariant-loop-l : goal.invariant-loop-l
invariant-loop-l l = IsShortened l.problem (take l.l-index l.literals) l.kept.items
