use Rattle.std.proofs.Common.{rules}
use Rattle.prod_model.specs.declared.expr.Expr.{the_lemmas}
use Rattle.worked_racks.proofs.UnmetLaws.{never_too_much}
use Rattle.worked_racks.proofs.reach.is_too_much.Goals as goal

pub returns-in-Cmp-AtLeast-default-default : goal.returns-in-Cmp-AtLeast-default-default
returns-in-Cmp-AtLeast-default-default c beyond k satisfied =
    let never = never_too_much c.args.problem.now c.get.result.now c.get-in-Cmp-AtLeast-default-default.result.now c.greatest.result c.least.result c.greatest.ensures c.least.ensures (c.is_below.ensures beyond) k satisfied in
    search (rules, the_lemmas)
