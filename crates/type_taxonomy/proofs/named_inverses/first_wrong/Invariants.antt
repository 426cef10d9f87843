use Rattle.std.proofs.Common.{ℕ, ◌<◌, IsTrue, true, slice_get}
use Rattle.std.specs.Option.{option_map_or}
use Rattle.prod_model.specs.Valid.{has_right_inverse}
use Rattle.type_taxonomy.proofs.named_inverses.first_wrong.Given as goal

-- the inverses of the declarations so far are right
abbrev pub invariant-loop-place : goal.invariant-loop-place
invariant-loop-place l = (k : ℕ) → k < l.place → IsTrue (option_map_or (has_right_inverse l.model l.t) (slice_get l.declared k) true)
