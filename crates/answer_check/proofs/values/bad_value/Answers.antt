use Rattle.std.proofs.Common.{arith}
use Rattle.answer_check.specs.steps.Finds.{BreaksAt}
use Rattle.answer_check.proofs.Items.{no_place_next, no_place}
use Rattle.answer_check.proofs.BadValues.{bad_within}
use Rattle.answer_check.proofs.FewItems.{few_instances}
use Rattle.answer_check.proofs.values.bad_value.Goals as goal

pub overflow_cast-i-end : goal.overflow_cast-i-end
overflow_cast-i-end c = omega (arith, few_instances c.args.problem.now c.args.c.now c.requires.spelled)

pub loop-i-preserved : goal.loop-i-preserved
loop-i-preserved c = no_place_next (BreaksAt c.args.problem.now c.args.c.now 3) c.loop-i.i c.loop-i.invariant c.in_default.ensures

pub returns : goal.returns
returns c =
    no_place (BreaksAt c.args.problem.now c.args.c.now 3) c.loop-i.i c.loop-i.invariant
    (λ i k broken. let within = bad_within c.args.problem.now c.args.c.now i k broken in omega arith)
