use Rattle.std.proofs.Common.{◌≡◌}
use Rattle.partial_state.specs.steps.Generated.{first_changed, instance_elsewhere}
use Rattle.partial_state.proofs.generation.make_rows_elsewhere.Given as goal

-- the first instances are changed
abbrev pub invariant-loop-i : goal.invariant-loop-i
invariant-loop-i l = l.rows.items ≡ first_changed l.i (instance_elsewhere l.n) l.fn.rows.items
