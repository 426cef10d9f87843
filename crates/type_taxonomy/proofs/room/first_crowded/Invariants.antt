use Rattle.std.proofs.Common.{ℕ, ◌<◌, IsTrue}
use Rattle.prod_model.specs.Valid.{has_room_at}
use Rattle.type_taxonomy.proofs.room.first_crowded.Given as goal

-- the types so far have room
abbrev pub invariant-loop-t : goal.invariant-loop-t
invariant-loop-t l = (k : ℕ) → k < l.t → IsTrue (has_room_at l.forest.model.now k)
