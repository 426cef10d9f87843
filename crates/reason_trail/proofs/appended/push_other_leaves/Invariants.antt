use Rattle.std.proofs.Common.{◌≡◌, ◌++◌, ◌==◌, ◌&&◌, not}
use Rattle.std.specs.Int.{bit_at}
use Rattle.prod_model.specs.Forest.{is_leaf}
use Rattle.config_value.specs.declared.literal.Literal.TheVariants.{NotKind}
use Rattle.reason_trail.proofs.InTurn.{told}
use Rattle.reason_trail.proofs.appended.push_other_leaves.Given as goal

-- what the types before t add is appended
abbrev pub invariant-loop-t : goal.invariant-loop-t
invariant-loop-t l = l.into ≡ l.fn.into ++ told (λ k. NotKind l.i k) (λ k. is_leaf l.problem k && not (bit_at l.kinds k == 1)) l.t
