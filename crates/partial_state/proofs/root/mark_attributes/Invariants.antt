use Rattle.std.proofs.Common.{take}
use Rattle.partial_state.specs.steps.Marks.{Marks}
use Rattle.partial_state.proofs.MarkedTypes.{ids_of}
use Rattle.partial_state.proofs.root.mark_attributes.Given as goal

-- the ids so far are marked
abbrev pub invariant-loop-attribute : goal.invariant-loop-attribute
invariant-loop-attribute l = Marks l.t (ids_of (λ e. e.id) l.t (take l.attribute-index l.attributes)) l.fn.masks.items l.masks.items
