use Rattle.std.proofs.Common.{◌≡◌, length}
use Rattle.std.specs.Ordering.{int_cmp}
use Rattle.std.specs.Cmp.Lexicographic.{slice_cmp}
use Rattle.config_value.specs.Rank.{key_order}
use Rattle.config_value.proofs.key.cmp.Given as goal

-- what is left of the keys decides
abbrev pub invariant-loop-a : goal.invariant-loop-a
invariant-loop-a l = slice_cmp int_cmp l.ours l.theirs ≡ key_order l.instances l.others

abbrev pub decreases-loop-a : goal.decreases-loop-a
decreases-loop-a l = length l.ours
