use Rattle.std.proofs.Common.{◌&&◌, ◌-◌}
use Rattle.instance_set.specs.InstanceSets.{is_member}
use Rattle.instance_set.proofs.Walks.{HasFoundBelow}
use Rattle.prod_model.specs.declared.expr.Expr.TheViews.{out-Expr}
use Rattle.answer_check.specs.steps.Evaluable.{simple_truth}
use Rattle.answer_check.proofs.truths.simple_among.Given as goal

-- those so far at which it holds
abbrev pub invariant-loop-i : goal.invariant-loop-i
invariant-loop-i l = HasFoundBelow (λ k. is_member l.among k && simple_truth l.problem l.c k (out-Expr l.e)) l.from l.found

abbrev pub decreases-loop-i : goal.decreases-loop-i
decreases-loop-i l = 256 - l.from
