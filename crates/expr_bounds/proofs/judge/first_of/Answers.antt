use Rattle.std.proofs.Common.{rules}
use Rattle.prod_model.specs.First.{IsFirst}
use Rattle.expr_bounds.specs.steps.Search.{whole_at, HasFaultAt, IsPathBefore, first}
use Rattle.expr_bounds.proofs.judge.first_of.Goals as goal

pub returns-in-Ok-Some-clause-first : goal.returns-in-Ok-Some-clause-first
returns-in-Ok-Some-clause-first c =
    let least : IsFirst (HasFaultAt c.args.model.now c.args.fault_kind c.args.expr.now (whole_at c.args.at)) IsPathBefore c.in-Ok-Some.path = search rules in
    first c.in-Ok-Some.path least c.fault_at.ensures
