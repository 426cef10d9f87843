use Rattle.std.proofs.Common.{◌≡◌, ℕ, ◌&&◌, take}
use Rattle.std.specs.List.{list_all, list_any}
use Rattle.instance_set.specs.InstanceSets.{is_member}
use Rattle.state_values.specs.Kleene.{is_true, is_false}
use Rattle.state_values.specs.Seen.{truth}
use Rattle.state_values.proofs.truths.+truths.Given as goal

-- where all arguments so far are true, and where one is false
abbrev pub invariant-all_among-loop-e : goal.invariant-all_among-loop-e
invariant-all_among-loop-e l = record {
  holding : (i : ℕ) → is_member l.all.holding i ≡ (is_member l.among i && list_all (λ e. is_true (truth l.problem l.p l.kind i e)) (take l.e-index l.args));
  failing : (i : ℕ) → is_member l.all.failing i ≡ (is_member l.among i && list_any (λ e. is_false (truth l.problem l.p l.kind i e)) (take l.e-index l.args));
}

-- where one argument so far is true, and where all are false
abbrev pub invariant-any_among-loop-e : goal.invariant-any_among-loop-e
invariant-any_among-loop-e l = record {
  holding : (i : ℕ) → is_member l.any.holding i ≡ (is_member l.among i && list_any (λ e. is_true (truth l.problem l.p l.kind i e)) (take l.e-index l.args));
  failing : (i : ℕ) → is_member l.any.failing i ≡ (is_member l.among i && list_all (λ e. is_false (truth l.problem l.p l.kind i e)) (take l.e-index l.args));
}
