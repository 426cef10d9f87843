use Rattle.std.proofs.Common.{◌<◌, ℕ}
use Rattle.nogood_store.specs.steps.Watching.{IsEntailedAt}
use Rattle.nogood_store.proofs.watched.Watched.first_open.Given as goal

-- those that were passed are entailed
abbrev pub invariant-loop-place : goal.invariant-loop-place
invariant-loop-place l = (place : ℕ) → place < l.place → IsEntailedAt l.trail.job.model l.trail.state l.literal-items place
