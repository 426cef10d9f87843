use Rattle.std.proofs.Common.{length}
use Rattle.config_value.specs.Literals.{has_attribute}
use Rattle.state_space.specs.State.{first_attributes}
use Rattle.partial_state.specs.steps.Marks.{AreMarked}
use Rattle.partial_state.proofs.root.attribute_types.Given as goal

-- the types so far are marked
abbrev pub invariant-loop-t : goal.invariant-loop-t
invariant-loop-t l = AreMarked l.problem (λ k a. has_attribute l.problem k a) (length (first_attributes l.problem)) l.t l.masks.items
