use Rattle.std.proofs.Common.{take}
use Rattle.partial_state.specs.steps.Marks.{Marks}
use Rattle.partial_state.proofs.MarkedTypes.{ids_of}
use Rattle.partial_state.proofs.root.mark_ports.Given as goal

-- the ids so far are marked
abbrev pub invariant-loop-port : goal.invariant-loop-port
invariant-loop-port l = Marks l.t (ids_of (λ e. e.id) l.t (take l.port-index l.ports)) l.fn.masks.items l.masks.items
