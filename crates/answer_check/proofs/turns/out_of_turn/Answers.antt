use Rattle.std.proofs.Common.{◌<◌, ◌≤◌, arith}
use Rattle.answer_check.specs.steps.Finds.{BreaksAt}
use Rattle.answer_check.proofs.FewItems.{few_instances}
use Rattle.answer_check.proofs.Items.{no_place_next, first_place, no_place}
use Rattle.answer_check.proofs.TurnSets.{out_found, out_none, out_within}
use Rattle.answer_check.proofs.turns.out_of_turn.Goals as goal

pub turns_in-turns-requires : goal.turns_in-turns-requires
turns_in-turns-requires c = few_instances c.args.problem.now c.args.c.now c.requires

pub overflow_cast-j-end : goal.overflow_cast-j-end
overflow_cast-j-end c = omega (arith, few_instances c.args.problem.now c.args.c.now c.requires)

pub returns-then-not-contains : goal.returns-then-not-contains
returns-then-not-contains c =
    let low : c.loop-j.j < 256 = omega (arith, few_instances c.args.problem.now c.args.c.now c.requires) in
    let high : 1 ≤ c.loop-j.j = omega arith in
    first_place (BreaksAt c.args.problem.now c.args.c.now 8) c.loop-j.j 0 c.loop-j.invariant
    (out_found c.args.problem.now c.args.c.now c.turns_in-turns.result c.turns_in-turns.ensures c.loop-j.j low high (omega arith) (grind arith))

pub loop-j-preserved : goal.loop-j-preserved
loop-j-preserved c =
    let low : c.loop-j.j < 256 = omega (arith, few_instances c.args.problem.now c.args.c.now c.requires) in
    let high : 1 ≤ c.loop-j.j = omega arith in
    no_place_next (BreaksAt c.args.problem.now c.args.c.now 8) c.loop-j.j c.loop-j.invariant
    (out_none c.args.problem.now c.args.c.now c.turns_in-turns.result c.turns_in-turns.ensures c.loop-j.j low high (grind arith))

pub returns : goal.returns
returns c =
    no_place (BreaksAt c.args.problem.now c.args.c.now 8) c.loop-j.j c.loop-j.invariant
    (λ i k broken. let within = out_within c.args.problem.now c.args.c.now i k broken in omega arith)
