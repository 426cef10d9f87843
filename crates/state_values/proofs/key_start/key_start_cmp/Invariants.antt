use Rattle.std.proofs.Common.{◌≡◌, length}
use Rattle.std.specs.Ordering.{int_cmp}
use Rattle.std.specs.Cmp.Lexicographic.{slice_cmp}
use Rattle.state_values.specs.KeyStart.{key_start_order}
use Rattle.state_values.proofs.key_start.key_start_cmp.Given as goal

-- what is left of the two decides
abbrev pub invariant-loop-a : goal.invariant-loop-a
invariant-loop-a l = slice_cmp int_cmp l.start l.key ≡ key_start_order l.problem l.p l.c

abbrev pub decreases-loop-a : goal.decreases-loop-a
decreases-loop-a l = length l.start
