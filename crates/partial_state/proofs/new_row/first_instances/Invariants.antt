use Rattle.std.proofs.Common.{◌≡◌, ℕ, nat_lt}
use Rattle.instance_set.specs.InstanceSets.{is_member}
use Rattle.partial_state.proofs.new_row.first_instances.Given as goal

abbrev pub invariant-loop-i : goal.invariant-loop-i
invariant-loop-i l = (k : ℕ) → is_member l.set k ≡ nat_lt k l.i
