use Rattle.prod_model.specs.Nesting.{nesting}
use Rattle.expr_bounds.proofs.Found.{NoneBefore}
use Rattle.expr_bounds.proofs.search.+find.Given as goal

-- an argument nests less deep
abbrev pub decreases-find : goal.decreases-find
decreases-find l = nesting l.part.now

-- the arguments before this one have no fault
abbrev pub invariant-loop-index : goal.invariant-loop-index
invariant-loop-index l = NoneBefore l.model l.fault_kind l.part l.fn.standing l.index
