use Rattle.std.proofs.Common.{ap, length, refl, arith, rules}
use Rattle.std.proofs.lemmas.Grind.{common_steps}
use denote.Param.Weighed.{at_most}
use Rattle.std.proofs.lemmas.Int.{ints}
use Rattle.prod_model.proofs.expr.Expr.TheLaws.{the_size}
use Rattle.prod_model.specs.declared.expr.Expr.{the_lemmas}
use Rattle.std.proofs.lemmas.Option.{slice_get_read}
use Rattle.config_value.specs.Value.{number_at}
use Rattle.answer_check.proofs.FewItems.{few_shaped}
use Rattle.config_value.proofs.IntSums.{sum_next}
use Rattle.answer_check.proofs.EvaluationLaws.{value_at_form, evaluable}
use Rattle.answer_check.proofs.numbers.+numbers.Goals as goal

pub number_at-sum_under-requires : goal.number_at-sum_under-requires
number_at-sum_under-requires t c = few_shaped c.args.problem.now c.args.c.now c.requires.valid c.requires.shaped

pub number_at-number_under-requires : goal.number_at-number_under-requires
number_at-number_under-requires t c = few_shaped c.args.problem.now c.args.c.now c.requires.valid c.requires.shaped

pub number_at-overflow_cast-result-in-Sum : goal.number_at-overflow_cast-result-in-Sum
number_at-overflow_cast-result-in-Sum t c =
    let can = evaluable c.args.problem.now c.args.c.now c.requires.valid.declared c.requires.shaped c.args.i c.args.e.now c.requires.bounded in
    search (rules, the_lemmas)

pub number_at-overflow_cast-result-in-Total : goal.number_at-overflow_cast-result-in-Total
number_at-overflow_cast-result-in-Total t c =
    let can = evaluable c.args.problem.now c.args.c.now c.requires.valid.declared c.requires.shaped c.args.i c.args.e.now c.requires.bounded in
    search (rules, the_lemmas)

pub number_at-overflow_cast-result-in-Add : goal.number_at-overflow_cast-result-in-Add
number_at-overflow_cast-result-in-Add t c =
    let can = evaluable c.args.problem.now c.args.c.now c.requires.valid.declared c.requires.shaped c.args.i c.args.e.now c.requires.bounded in
    search (rules, the_lemmas)

pub number_at-overflow_sub-result : goal.number_at-overflow_sub-result
number_at-overflow_sub-result t c =
    let can = evaluable c.args.problem.now c.args.c.now c.requires.valid.declared c.requires.shaped c.args.i c.args.e.now c.requires.bounded in
    search (rules, the_lemmas)

pub number_at-overflow_mul-result : goal.number_at-overflow_mul-result
number_at-overflow_mul-result t c =
    let can = evaluable c.args.problem.now c.args.c.now c.requires.valid.declared c.requires.shaped c.args.i c.args.e.now c.requires.bounded in
    search (rules, the_lemmas)

pub number_at-sum_of_all-requires : goal.number_at-sum_of_all-requires
number_at-sum_of_all-requires t c =
    let can = evaluable c.args.problem.now c.args.c.now c.requires.valid.declared c.requires.shaped c.args.i c.args.e.now c.requires.bounded in
    search (rules, the_lemmas)

pub number_at-number_at-requires : goal.number_at-number_at-requires
number_at-number_at-requires t c =
    let can = evaluable c.args.problem.now c.args.c.now c.requires.valid.declared c.requires.shaped c.args.i c.args.e.now c.requires.bounded in
    search (rules, the_lemmas)

pub number_at-number_at-requires-in-Sub : goal.number_at-number_at-requires-in-Sub
number_at-number_at-requires-in-Sub t c =
    let can = evaluable c.args.problem.now c.args.c.now c.requires.valid.declared c.requires.shaped c.args.i c.args.e.now c.requires.bounded in
    search (rules, the_lemmas)

pub number_at-number_at-requires-in-Times : goal.number_at-number_at-requires-in-Times
number_at-number_at-requires-in-Times t c =
    let can = evaluable c.args.problem.now c.args.c.now c.requires.valid.declared c.requires.shaped c.args.i c.args.e.now c.requires.bounded in
    search (rules, the_lemmas)

pub number_at-returns-in-Num : goal.number_at-returns-in-Num
number_at-returns-in-Num t c = rw (value_at_form c.args.problem.now c.args.c.now c.args.i c.args.e.now) (search (rules, the_lemmas))

pub number_at-returns-in-Attr : goal.number_at-returns-in-Attr
number_at-returns-in-Attr t c = rw (value_at_form c.args.problem.now c.args.c.now c.args.i c.args.e.now) (search (rules, the_lemmas))

pub number_at-returns-in-Count : goal.number_at-returns-in-Count
number_at-returns-in-Count t c = rw (value_at_form c.args.problem.now c.args.c.now c.args.i c.args.e.now) (search (rules, the_lemmas))

pub number_at-returns-in-CountOf : goal.number_at-returns-in-CountOf
number_at-returns-in-CountOf t c = rw (value_at_form c.args.problem.now c.args.c.now c.args.i c.args.e.now) (search (rules, the_lemmas))

pub number_at-returns-in-Number : goal.number_at-returns-in-Number
number_at-returns-in-Number t c = rw (value_at_form c.args.problem.now c.args.c.now c.args.i c.args.e.now) (search (rules, the_lemmas))

pub number_at-returns-in-Sum : goal.number_at-returns-in-Sum
number_at-returns-in-Sum t c =
    let can = evaluable c.args.problem.now c.args.c.now c.requires.valid.declared c.requires.shaped c.args.i c.args.e.now c.requires.bounded in
    rw (value_at_form c.args.problem.now c.args.c.now c.args.i c.args.e.now) (search (rules, the_lemmas))

pub number_at-returns-in-Total : goal.number_at-returns-in-Total
number_at-returns-in-Total t c =
    let can = evaluable c.args.problem.now c.args.c.now c.requires.valid.declared c.requires.shaped c.args.i c.args.e.now c.requires.bounded in
    rw (value_at_form c.args.problem.now c.args.c.now c.args.i c.args.e.now) (search (rules, the_lemmas))

pub number_at-returns-in-Add : goal.number_at-returns-in-Add
number_at-returns-in-Add t c =
    let can = evaluable c.args.problem.now c.args.c.now c.requires.valid.declared c.requires.shaped c.args.i c.args.e.now c.requires.bounded in
    rw (value_at_form c.args.problem.now c.args.c.now c.args.i c.args.e.now) (search (rules, the_lemmas))

pub number_at-returns-in-Sub : goal.number_at-returns-in-Sub
number_at-returns-in-Sub t c =
    let can = evaluable c.args.problem.now c.args.c.now c.requires.valid.declared c.requires.shaped c.args.i c.args.e.now c.requires.bounded in
    rw (value_at_form c.args.problem.now c.args.c.now c.args.i c.args.e.now) (search (rules, the_lemmas))

pub number_at-returns-in-Times : goal.number_at-returns-in-Times
number_at-returns-in-Times t c =
    let can = evaluable c.args.problem.now c.args.c.now c.requires.valid.declared c.requires.shaped c.args.i c.args.e.now c.requires.bounded in
    rw (value_at_form c.args.problem.now c.args.c.now c.args.i c.args.e.now) (search (rules, the_lemmas))

pub number_at-returns-in_default : goal.number_at-returns-in_default
number_at-returns-in_default t c = rw (value_at_form c.args.problem.now c.args.c.now c.args.i c.args.e.now) (search (rules, the_lemmas))

pub sum_of_all-number_at-requires : goal.sum_of_all-number_at-requires
sum_of_all-number_at-requires t c =
    let at = slice_get_read c.args.args.now (length c.args.args.now) c.loop-e.e-index c.e-item.result refl c.loop-e-test.true c.e-item.is in
    let low = at_most the_size c.args.args.now c.loop-e.e-index c.e-item.result c.loop-e-test.true in
    (grind (arith, common_steps, low, ap the_size c.e-item.is), (c.requires.valid, (c.requires.shaped, c.requires.bounded c.loop-e.e-index c.e-item.result at)))

pub sum_of_all-loop-e-preserved : goal.sum_of_all-loop-e-preserved
sum_of_all-loop-e-preserved t c =
    let at = slice_get_read c.args.args.now (length c.args.args.now) c.loop-e.e-index c.e-item.result refl c.loop-e-test.true c.e-item.is in
    let next = sum_next (number_at c.args.problem.now c.args.c.now c.args.i) c.args.args.now c.loop-e.e-index c.e-item.result at in
    record {
      sum = omega (arith, ints, next, c.number_at.ensures, c.loop-e.invariant.sum);
      low = omega (arith, ints);
      high = omega (arith, ints);
    }
