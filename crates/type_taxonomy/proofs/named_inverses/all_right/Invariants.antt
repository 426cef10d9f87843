use Rattle.type_taxonomy.proofs.FirstInverseFault.{RightBelow}
use Rattle.type_taxonomy.proofs.named_inverses.all_right.Given as goal

-- the inverses of the types so far are right
abbrev pub invariant-loop-t : goal.invariant-loop-t
invariant-loop-t l = RightBelow l.model l.t
