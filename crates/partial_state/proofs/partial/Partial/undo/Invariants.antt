use Rattle.std.proofs.Common.{length}
use Rattle.partial_state.proofs.StateChanges.{IsUndoing}
use Rattle.partial_state.proofs.partial.Partial.undo.Given as goal

-- what is left of the log brings the state back
abbrev pub invariant-loop-log : goal.invariant-loop-log
invariant-loop-log l = IsUndoing l.len l.fn.self l.fn.log l.self l.log

abbrev pub decreases-loop-log : goal.decreases-loop-log
decreases-loop-log l = length l.log
