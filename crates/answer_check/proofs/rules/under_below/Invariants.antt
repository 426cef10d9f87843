use Rattle.std.proofs.Common.{◌≡◌, ℕ, ◌&&◌, nat_lt}
use Rattle.config_value.specs.Value.{is_under}
use Rattle.instance_set.specs.InstanceSets.{is_member}
use Rattle.answer_check.proofs.rules.under_below.Given as goal

-- the instances so far
abbrev pub invariant-loop-i : goal.invariant-loop-i
invariant-loop-i l = (j : ℕ) → is_member l.under j ≡ (nat_lt j l.i && is_under l.problem l.c l.kind j)
