use Rattle.prod_model.specs.declared.expr.Expr.TheViews.{out-Expr}
use Rattle.state_values.specs.steps.Truths.{simple_truth}
use Rattle.state_values.proofs.SimpleTruths.{told_next, told_all}
use Rattle.state_values.proofs.truths.simple_among.Goals as goal

pub loop-i-preserved : goal.loop-i-preserved
loop-i-preserved c =
    told_next c.args.among (λ i. simple_truth c.args.problem.now c.args.p.now c.args.kind i (out-Expr c.args.e.now)) c.loop-i.from c.in-Some.i c.loop-i.found c.with-found.result c.simple_truth.result
    c.loop-i.invariant c.in-Some.ensures c.simple_truth.ensures c.with-found.ensures.holding c.with-found.ensures.failing

pub returns : goal.returns
returns c =
    told_all c.args.among (λ i. simple_truth c.args.problem.now c.args.p.now c.args.kind i (out-Expr c.args.e.now)) c.loop-i.from c.loop-i.found c.loop-i.invariant c.in_default.ensures
