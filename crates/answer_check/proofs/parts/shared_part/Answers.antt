use Rattle.std.proofs.Common.{◌<◌, arith}
use Rattle.answer_check.specs.steps.Finds.{BreaksAt}
use Rattle.answer_check.proofs.FewItems.{few_instances}
use Rattle.answer_check.proofs.Items.{no_place_next, first_place, no_place}
use Rattle.answer_check.proofs.SharedParts.{shared_found, shared_none, shared_within}
use Rattle.answer_check.proofs.parts.shared_part.Goals as goal

pub seen_in-seen-requires : goal.seen_in-seen-requires
seen_in-seen-requires c = few_instances c.args.problem.now c.args.c.now c.requires

pub overflow_cast-j-end : goal.overflow_cast-j-end
overflow_cast-j-end c = omega (arith, few_instances c.args.problem.now c.args.c.now c.requires)

pub returns-then-is_overfull : goal.returns-then-is_overfull
returns-then-is_overfull c =
    let low : c.loop-j.j < 256 = omega (arith, few_instances c.args.problem.now c.args.c.now c.requires) in
    first_place (BreaksAt c.args.problem.now c.args.c.now 7) c.loop-j.j 0 c.loop-j.invariant
    (shared_found c.args.problem.now c.args.c.now c.seen_in-seen.result c.seen_in-seen.ensures c.loop-j.j low (omega arith) (grind arith))

pub loop-j-preserved : goal.loop-j-preserved
loop-j-preserved c =
    let low : c.loop-j.j < 256 = omega (arith, few_instances c.args.problem.now c.args.c.now c.requires) in
    no_place_next (BreaksAt c.args.problem.now c.args.c.now 7) c.loop-j.j c.loop-j.invariant
    (shared_none c.args.problem.now c.args.c.now c.seen_in-seen.result c.seen_in-seen.ensures c.loop-j.j low (grind arith))

pub returns : goal.returns
returns c =
    no_place (BreaksAt c.args.problem.now c.args.c.now 7) c.loop-j.j c.loop-j.invariant
    (λ i k broken. let within = shared_within c.args.problem.now c.args.c.now i k broken in omega arith)
