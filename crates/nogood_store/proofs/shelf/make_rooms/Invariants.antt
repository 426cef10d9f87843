use Rattle.nogood_store.specs.steps.Watchers.{KeepsWatches}
use Rattle.nogood_store.proofs.shelf.make_rooms.Given as goal

-- what is watched stays
abbrev pub invariant-loop-l : goal.invariant-loop-l
invariant-loop-l l = KeepsWatches l.fn.watchers l.watchers
