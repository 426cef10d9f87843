use Rattle.std.proofs.Common.{◌≡◌}
use Rattle.std.specs.Option.{option_map}
use Rattle.state_space.specs.Ports.{made_elsewhere}
use Rattle.partial_state.specs.steps.Generated.{first_changed}
use Rattle.partial_state.proofs.generation.make_slots_elsewhere.Given as goal

-- the first ports are changed
abbrev pub invariant-loop-i : goal.invariant-loop-i
invariant-loop-i l = l.slots.items ≡ first_changed l.i (option_map (made_elsewhere l.n)) l.fn.slots.items
