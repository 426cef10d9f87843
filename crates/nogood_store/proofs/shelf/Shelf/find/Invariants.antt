use Rattle.nogood_store.specs.steps.Shelves.{FromRow, IsSearching}
use Rattle.nogood_store.proofs.shelf.Shelf.find.Given as goal

-- the rows from this one on are left
abbrev pub invariant-loop-k : goal.invariant-loop-k
invariant-loop-k l = IsSearching l.trail.job.model l.keep l.trail.state l.fn.self l.self (FromRow l.k) l.least
