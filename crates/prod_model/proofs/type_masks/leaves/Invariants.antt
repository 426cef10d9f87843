use Rattle.std.proofs.Common.{take, length, nat_lt, ◌&&◌}
use Rattle.prod_model.specs.TypeMasks.{IsMask}
use Rattle.prod_model.specs.steps.TypeMasks.{has_no_child}
use Rattle.prod_model.proofs.type_masks.leaves.Given as goal

abbrev pub invariant-loop-decl : goal.invariant-loop-decl
invariant-loop-decl l = IsMask l.leaves (λ t. nat_lt t (length l.types) && has_no_child (take l.decl-index l.types) t)
