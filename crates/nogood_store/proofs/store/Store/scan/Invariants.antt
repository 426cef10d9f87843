use Rattle.std.proofs.Common.{◌<◌, ℕ}
use Rattle.nogood_store.specs.Stores.{AppliesAt}
use Rattle.nogood_store.proofs.store.Store.scan.Given as goal

-- none that was passed applies
abbrev pub invariant-loop-k : goal.invariant-loop-k
invariant-loop-k l = (place : ℕ) → place < l.k → ¬ AppliesAt l.self.model l.keep l.trail.state l.self.nogoods place
