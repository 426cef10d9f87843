use Rattle.std.proofs.Common.{sym, subst, Option, arith}
use Rattle.answer_check.specs.declared.place.Place.{Place}
use Rattle.answer_check.specs.steps.Finds.{BreaksAt, FindsPlace}
use Rattle.answer_check.proofs.FewItems.{few_instances}
use Rattle.answer_check.proofs.Singles.{none_bad_count, some_bad_count, few_bad_counts}
use Rattle.answer_check.proofs.sizes.bad_count.Goals as goal

pub place_of_bad_count-requires : goal.place_of_bad_count-requires
place_of_bad_count-requires c = few_instances c.args.problem.now c.args.c.now c.requires.spelled

pub returns-in_err-item : goal.returns-in_err-item
returns-in_err-item c =
    let Finds : Option Place → Type 0 = FindsPlace (BreaksAt c.args.problem.now c.args.c.now 9) in
    subst Finds (sym c.from_residual.ensures) (none_bad_count c.args.problem.now c.args.c.now c.in_err-item.ensures)

pub overflow_cast-result : goal.overflow_cast-result
overflow_cast-result c = omega (arith, few_bad_counts c.args.problem.now c.args.c.now c.requires.valid c.in_ok-item.item c.in_ok-item.ensures)

pub returns : goal.returns
returns c = some_bad_count c.args.problem.now c.args.c.now c.in_ok-item.item c.in_ok-item.ensures
