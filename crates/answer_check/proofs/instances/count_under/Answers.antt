use Rattle.std.proofs.Common.{arith}
use Rattle.config_value.specs.Value.{under}
use Rattle.base_laws.proofs.Steps.{count_by_next}
use Rattle.answer_check.proofs.instances.count_under.Goals as goal
use Rattle.answer_check.proofs.instances.count_under.Goals.{then-is_under, else-is_under}

-- one more is counted if it is under the type
pub loop-i-preserved : goal.loop-i-preserved
loop-i-preserved c =
    let next = count_by_next (under c.args.problem.now c.args.kind) c.args.c.now c.loop-i.i c.get.result.now c.get.ensures in
    elim c.if-is_under.branch [ then-is_under w ↦ grind arith | else-is_under w ↦ grind arith ]
