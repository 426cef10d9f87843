use Rattle.std.proofs.Common.{◌∙◌, ap, rules}
use Rattle.prod_model.specs.declared.expr.Expr.{the_lemmas}
use Rattle.state_values.proofs.NumberLaws.{number_parts, limited_own, bounded_own, low_is, high_is, add_is, times_is}
use Rattle.state_values.specs.Seen.{low, high}
use Rattle.state_values.specs.steps.Forms.{seen_sum}
use Rattle.state_values.proofs.numbers.+numbers.Goals as goal

-- ---- what an expression with bounds asks for is there

pub form_range-value-requires : goal.form_range-value-requires
form_range-value-requires t c =
    let has = number_parts c.args.problem.now c.model-model.ensures.valid.declared c.args.p.now c.args.kind c.args.i c.requires.stands c.args.e.now c.requires.number in
    search (rules, the_lemmas)

pub form_range-links-requires-clause-has : goal.form_range-links-requires-clause-has
form_range-links-requires-clause-has t c =
    let has = number_parts c.args.problem.now c.model-model.ensures.valid.declared c.args.p.now c.args.kind c.args.i c.requires.stands c.args.e.now c.requires.number in
    search (rules, the_lemmas)

pub form_range-links_under-requires-clause-has : goal.form_range-links_under-requires-clause-has
form_range-links_under-requires-clause-has t c =
    let has = number_parts c.args.problem.now c.model-model.ensures.valid.declared c.args.p.now c.args.kind c.args.i c.requires.stands c.args.e.now c.requires.number in
    search (rules, the_lemmas)

pub form_range-links_under-requires-clause-known : goal.form_range-links_under-requires-clause-known
form_range-links_under-requires-clause-known t c =
    let has = number_parts c.args.problem.now c.model-model.ensures.valid.declared c.args.p.now c.args.kind c.args.i c.requires.stands c.args.e.now c.requires.number in
    search (rules, the_lemmas)

pub form_range-linked_values-requires-clause-has : goal.form_range-linked_values-requires-clause-has
form_range-linked_values-requires-clause-has t c =
    let has = number_parts c.args.problem.now c.model-model.ensures.valid.declared c.args.p.now c.args.kind c.args.i c.requires.stands c.args.e.now c.requires.number in
    search (rules, the_lemmas)

pub form_range-linked_values-requires-clause-known : goal.form_range-linked_values-requires-clause-known
form_range-linked_values-requires-clause-known t c =
    let has = number_parts c.args.problem.now c.model-model.ensures.valid.declared c.args.p.now c.args.kind c.args.i c.requires.stands c.args.e.now c.requires.number in
    search (rules, the_lemmas)

pub form_range-values_under-requires-clause-known : goal.form_range-values_under-requires-clause-known
form_range-values_under-requires-clause-known t c =
    let has = number_parts c.args.problem.now c.model-model.ensures.valid.declared c.args.p.now c.args.kind c.args.i c.requires.stands c.args.e.now c.requires.number in
    search (rules, the_lemmas)

pub form_range-sum_of_all-requires : goal.form_range-sum_of_all-requires
form_range-sum_of_all-requires t c =
    let has = number_parts c.args.problem.now c.model-model.ensures.valid.declared c.args.p.now c.args.kind c.args.i c.requires.stands c.args.e.now c.requires.number in
    search (rules, the_lemmas)

pub form_range-number_in-requires : goal.form_range-number_in-requires
form_range-number_in-requires t c =
    let has = number_parts c.args.problem.now c.model-model.ensures.valid.declared c.args.p.now c.args.kind c.args.i c.requires.stands c.args.e.now c.requires.number in
    search (rules, the_lemmas)

pub form_range-number_in-requires-in-Sub : goal.form_range-number_in-requires-in-Sub
form_range-number_in-requires-in-Sub t c =
    let has = number_parts c.args.problem.now c.model-model.ensures.valid.declared c.args.p.now c.args.kind c.args.i c.requires.stands c.args.e.now c.requires.number in
    search (rules, the_lemmas)

pub form_range-number_in-requires-in-Times : goal.form_range-number_in-requires-in-Times
form_range-number_in-requires-in-Times t c =
    let has = number_parts c.args.problem.now c.model-model.ensures.valid.declared c.args.p.now c.args.kind c.args.i c.requires.stands c.args.e.now c.requires.number in
    search (rules, the_lemmas)

-- ---- what a form is, an expression is within its bounds

pub number_in-bounded-requires : goal.number_in-bounded-requires
number_in-bounded-requires t c =
    limited_own c.args.problem.now c.model-model.ensures.valid.declared c.args.p.now c.args.kind c.args.i c.requires.stands c.args.e.now c.requires.number
    c.form_range.result.own c.form_range.ensures.own

pub number_in-returns-clause-own : goal.number_in-returns-clause-own
number_in-returns-clause-own t c =
    bounded_own c.args.problem.now c.model-model.ensures.valid.declared c.args.p.now c.args.kind c.args.i c.requires.stands c.args.e.now c.requires.number
    c.form_range.result.own c.form_range.ensures.own c.bounded.result.own c.bounded.ensures.own

pub number_in-returns-clause-low : goal.number_in-returns-clause-low
number_in-returns-clause-low t c =
    low_is c.args.problem.now c.model-model.ensures.valid.declared c.args.p.now c.args.kind c.args.i c.requires.stands c.args.e.now c.requires.number
    c.form_range.result.own c.form_range.ensures.own c.bounded.result.own c.bounded.ensures.own
    c.form_range.result.seen c.form_range.ensures.seen c.bounded.result.seen c.bounded.ensures.seen

pub number_in-returns-clause-high : goal.number_in-returns-clause-high
number_in-returns-clause-high t c =
    high_is c.args.problem.now c.model-model.ensures.valid.declared c.args.p.now c.args.kind c.args.i c.requires.stands c.args.e.now c.requires.number
    c.form_range.result.own c.form_range.ensures.own c.bounded.result.own c.bounded.ensures.own
    c.form_range.result.seen c.form_range.ensures.seen c.bounded.result.seen c.bounded.ensures.seen

pub form_range-returns-in-Add-clause-seen : goal.form_range-returns-in-Add-clause-seen
form_range-returns-in-Add-clause-seen t c =
    add_is c.args.problem.now c.args.p.now c.args.kind c.args.i c.args.e.now c.sum_of_all.result.seen c.in-Add.args (search (rules, the_lemmas))
    (c.sum_of_all.ensures.seen ∙ ap (seen_sum c.args.problem.now c.args.p.now c.args.kind c.args.i) c.as_slice.ensures)

pub form_range-returns-in-Times-clause-seen : goal.form_range-returns-in-Times-clause-seen
form_range-returns-in-Times-clause-seen t c =
    times_is c.args.problem.now c.args.p.now c.args.kind c.args.i c.args.e.now c.times.result.seen c.in-Times.factor c.in-Times.a c.number_in-in-Times.result.seen (search (rules, the_lemmas))
    (c.number_in-in-Times.ensures.low ∙ ap (low c.args.problem.now c.args.p.now c.args.kind c.args.i) c.get-in-Times.ensures)
    (c.number_in-in-Times.ensures.high ∙ ap (high c.args.problem.now c.args.p.now c.args.kind c.args.i) c.get-in-Times.ensures)
    (search (rules, the_lemmas))
