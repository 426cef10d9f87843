use Rattle.std.proofs.Common.{rules}
use Rattle.prod_model.specs.declared.expr.Expr.{the_lemmas}
use Rattle.answer_check.proofs.EvaluationLaws.{value_at_form}
use Rattle.answer_check.proofs.evaluate.value_at.Goals as goal

pub returns-then-is_truth : goal.returns-then-is_truth
returns-then-is_truth c =
    let value = value_at_form c.args.problem.now c.args.c.now c.args.i c.args.e.now in
    search (rules, the_lemmas)

pub returns-else-is_truth : goal.returns-else-is_truth
returns-else-is_truth c =
    let value = value_at_form c.args.problem.now c.args.c.now c.args.i c.args.e.now in
    search (rules, the_lemmas)
