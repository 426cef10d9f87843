use Rattle.std.proofs.Common.{ℕ, ◌<◌, IsTrue, true, slice_get}
use Rattle.std.specs.Option.{option_map_or}
use Rattle.type_taxonomy.specs.steps.Above.{port_passes}
use Rattle.type_taxonomy.proofs.widening.first_wide_port.Given as goal

-- the ports so far narrow
abbrev pub invariant-loop-place : goal.invariant-loop-place
invariant-loop-place l = (k : ℕ) → k < l.place → IsTrue (option_map_or (port_passes l.forest.model.now l.above) (slice_get l.ports k) true)
