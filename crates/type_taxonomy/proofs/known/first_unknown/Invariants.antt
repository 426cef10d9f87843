use Rattle.std.proofs.Common.{ℕ, ◌<◌, true, IsTrue, slice_get}
use Rattle.std.specs.Option.{option_map_or}
use Rattle.prod_model.specs.Valid.{knows_types}
use Rattle.type_taxonomy.proofs.known.first_unknown.Given as goal

-- the types so far know theirs
abbrev pub invariant-loop-t : goal.invariant-loop-t
invariant-loop-t l = (k : ℕ) → k < l.t → IsTrue (option_map_or (knows_types l.model) (slice_get l.types k) true)
