-- The job stays.
use Rattle.std.proofs.Common.{◌≡◌}
use Rattle.worked_searches.proofs.searchers.hand_in_each.Given as goal

abbrev pub invariant-loop-lines : goal.invariant-loop-lines
invariant-loop-lines g l = l.search.job ≡ l.initial.search.job
