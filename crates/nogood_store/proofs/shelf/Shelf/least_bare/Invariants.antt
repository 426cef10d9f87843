use Rattle.std.proofs.Common.{◌<◌, ℕ}
use Rattle.std.specs.Prelude.{IfSome}
use Rattle.base_laws.specs.Places.{IsAt}
use Rattle.nogood_store.specs.Stores.{AppliesAt}
use Rattle.nogood_store.specs.steps.Shelves.{IsAtMost, nogoods_of}
use Rattle.nogood_store.proofs.shelf.Shelf.least_bare.Given as goal

-- the least applies, and is no greater than those that were passed and apply
abbrev pub invariant-loop-i : goal.invariant-loop-i
invariant-loop-i l = record {
  found : IfSome l.least (AppliesAt l.trail.job.model l.keep l.trail.state (nogoods_of l.self));
  low : (p i : ℕ) → i < l.i → IsAt l.self.bare.items i p
      → AppliesAt l.trail.job.model l.keep l.trail.state (nogoods_of l.self) p → IsAtMost l.least p;
}
