use Rattle.std.proofs.Common.{length}
use Rattle.config_value.specs.Literals.{has_port}
use Rattle.state_space.specs.State.{first_ports}
use Rattle.partial_state.specs.steps.Marks.{AreMarked}
use Rattle.partial_state.proofs.root.port_types.Given as goal

-- the types so far are marked
abbrev pub invariant-loop-t : goal.invariant-loop-t
invariant-loop-t l = AreMarked l.problem (λ k a. has_port l.problem k a) (length (first_ports l.problem)) l.t l.masks.items
