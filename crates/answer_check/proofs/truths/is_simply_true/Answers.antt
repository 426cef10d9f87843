use Rattle.std.proofs.Common.{rules}
use Rattle.prod_model.specs.declared.expr.Expr.{the_lemmas}
use Rattle.answer_check.proofs.EvaluationLaws.{evaluable}
use Rattle.answer_check.proofs.truths.is_simply_true.Goals as goal

pub number_at-requires-clause-bounded : goal.number_at-requires-clause-bounded
number_at-requires-clause-bounded c =
    let can = evaluable c.args.problem.now c.args.c.now c.requires.valid.declared c.requires.shaped c.args.i c.args.e.now c.requires.bounded in
    search (rules, the_lemmas)

pub number_at-requires-in-Cmp-clause-bounded : goal.number_at-requires-in-Cmp-clause-bounded
number_at-requires-in-Cmp-clause-bounded c =
    let can = evaluable c.args.problem.now c.args.c.now c.requires.valid.declared c.requires.shaped c.args.i c.args.e.now c.requires.bounded in
    search (rules, the_lemmas)
