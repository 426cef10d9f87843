use Rattle.std.proofs.Common.{◌∙◌, sym}
use Rattle.worked_racks.proofs.UnmetLaws.{unmet_first}
use Rattle.worked_racks.proofs.reach.is_out_of_reach.Goals as goal

pub returns-in-Some : goal.returns-in-Some
returns-in-Some c beyond =
    unmet_first c.args.problem.now c.args.order.now c.in-Some.first.now c.in-Some.field-0-1.now (sym c.as_slice.ensures ∙ c.in-Some.ensures.cases.0) (c.is_too_much.ensures beyond)
