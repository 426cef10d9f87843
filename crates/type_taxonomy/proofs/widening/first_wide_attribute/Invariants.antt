use Rattle.std.proofs.Common.{ℕ, ◌<◌, IsTrue, true, slice_get}
use Rattle.std.specs.Option.{option_map_or}
use Rattle.type_taxonomy.specs.steps.Above.{attribute_passes}
use Rattle.type_taxonomy.proofs.widening.first_wide_attribute.Given as goal

-- the attributes so far narrow
abbrev pub invariant-loop-place : goal.invariant-loop-place
invariant-loop-place l = (k : ℕ) → k < l.place → IsTrue (option_map_or (attribute_passes l.above) (slice_get l.attributes k) true)
