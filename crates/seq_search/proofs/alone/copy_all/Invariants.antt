-- So many are copied.
use Rattle.std.proofs.Common.{◌≡◌, take}
use Rattle.seq_search.proofs.alone.copy_all.Given as goal

abbrev pub invariant-loop-e : goal.invariant-loop-e
invariant-loop-e l = l.copies ≡ take l.e-index l.extra
