use Rattle.std.proofs.Common.{◌-◌}
use Rattle.prod_model.specs.declared.expr.Expr.TheViews.{out-Expr}
use Rattle.state_values.specs.steps.Truths.{simple_truth}
use Rattle.state_values.proofs.SimpleTruths.{HasTold}
use Rattle.state_values.proofs.truths.simple_among.Given as goal

-- those of the members so far
abbrev pub invariant-loop-i : goal.invariant-loop-i
invariant-loop-i l = HasTold l.among (λ i. simple_truth l.problem l.p l.kind i (out-Expr l.e)) l.from l.found

abbrev pub decreases-loop-i : goal.decreases-loop-i
decreases-loop-i l = 256 - l.from
