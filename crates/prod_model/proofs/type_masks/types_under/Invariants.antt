use Rattle.std.proofs.Common.{ℕ, nat_lt, ◌&&◌, slice_index}
use Rattle.prod_model.specs.Forest.{line}
use Rattle.prod_model.specs.TypeMasks.{IsMask}
use Rattle.prod_model.specs.steps.TypeMasks.{is_on}
use Rattle.prod_model.proofs.type_masks.types_under.Given as goal

abbrev pub invariant-loop-t : goal.invariant-loop-t
invariant-loop-t l = (u : ℕ) → IsMask (slice_index l.under u) (λ t. nat_lt t l.t && is_on (line l.types t) u)
