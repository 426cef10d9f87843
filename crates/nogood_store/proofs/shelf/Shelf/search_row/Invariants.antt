use Rattle.nogood_store.specs.declared.shelf.Shelf.{Shelf}
use Rattle.nogood_store.specs.steps.Shelves.{FromPlace, FromRow, IsSearching, KeepsShelf}
use Rattle.nogood_store.proofs.shelf.Shelf.search_row.Given as goal

-- so many places of the row are left
abbrev pub invariant-loop-at : goal.invariant-loop-at
invariant-loop-at l = record {
  kept : KeepsShelf l.fn.self l.self;
  searched : (s : Shelf)
      → IsSearching l.trail.job.model l.keep l.trail.state s l.fn.self (FromRow l.k) l.fn.least
      → IsSearching l.trail.job.model l.keep l.trail.state s l.self (FromPlace l.k l.at) l.least;
}

abbrev pub decreases-loop-at : goal.decreases-loop-at
decreases-loop-at l = l.at
