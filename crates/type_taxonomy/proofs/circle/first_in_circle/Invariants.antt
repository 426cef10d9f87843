use Rattle.std.proofs.Common.{ℕ, ◌<◌, not, IsTrue}
use Rattle.prod_model.specs.Forest.{is_in_circle}
use Rattle.type_taxonomy.proofs.circle.first_in_circle.Given as goal

-- none of the types so far is in a circle
abbrev pub invariant-loop-t : goal.invariant-loop-t
invariant-loop-t l = (k : ℕ) → k < l.t → IsTrue (not (is_in_circle l.model k))
