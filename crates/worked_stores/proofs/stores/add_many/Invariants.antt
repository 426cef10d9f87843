use Rattle.worked_stores.specs.steps.Stores.{IsStoreOf}
use Rattle.worked_stores.proofs.stores.add_many.Given as goal

-- it is a store of the trail's job
abbrev pub invariant-loop-left : goal.invariant-loop-left
invariant-loop-left l = IsStoreOf l.trail.job l.store

abbrev pub decreases-loop-left : goal.decreases-loop-left
decreases-loop-left l = l.left
