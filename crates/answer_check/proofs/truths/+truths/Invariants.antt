use Rattle.std.proofs.Common.{◌≡◌, ℕ, ◌&&◌, not, take}
use Rattle.std.specs.List.{list_all, list_any}
use Rattle.config_value.specs.Value.{is_true_at}
use Rattle.instance_set.specs.InstanceSets.{is_member}
use Rattle.answer_check.proofs.truths.+truths.Given as goal

-- those at which the arguments so far are true
abbrev pub invariant-all_among-loop-e : goal.invariant-all_among-loop-e
invariant-all_among-loop-e l = (i : ℕ) → is_member l.left i ≡ (is_member l.fn.among i && list_all (is_true_at l.problem l.c i) (take l.e-index l.args))

-- those at which no argument so far is true
abbrev pub invariant-none_among-loop-e : goal.invariant-none_among-loop-e
invariant-none_among-loop-e l = (i : ℕ) → is_member l.left i ≡ (is_member l.fn.among i && not (list_any (is_true_at l.problem l.c i) (take l.e-index l.args)))
