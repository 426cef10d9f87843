use Rattle.std.proofs.Common.{◌≡◌, ◌∙◌, [], ◌∷◌, Some, None, rules}
use Rattle.prod_model.specs.Taxonomy.{attribute_of as attribute_at}
use Rattle.prod_model.specs.ExprBounds.{truth_of}
use Rattle.prod_model.proofs.FirstWords.{attribute_of_same_id}
use Rattle.expr_bounds.specs.steps.PlusArgument.{sum_with}
use Rattle.expr_bounds.proofs.BoundsLaws.{truths_turn, truths_stop, sums_turn, sums_stop}
use Rattle.expr_bounds.proofs.bounds.+forms.Goals as goal

-- what was found under the id has the id
pub form_bounds-has_word-requires-clause-has : goal.form_bounds-has_word-requires-clause-has
form_bounds-has_word-requires-clause-has t c =
    let a = c.in_ok-attribute-in-Is.attribute.now in
    let found : attribute_at c.args.model.now c.args.at c.in-Is.a ≡ Some a = search rules in
    attribute_of_same_id c.args.model.now c.args.at c.in-Is.a a found

pub all_truths-returns-in_err-truth : goal.all_truths-returns-in_err-truth
all_truths-returns-in_err-truth t c =
    let none : truth_of (c.form_bounds.result ∷ []) ≡ None = search rules in
    let is : c.from_residual.result ≡ None = search rules in
    is ∙ truths_stop c.args.model.now c.args.at c.args.args.now c.loop-arg.arg-index c.arg-item.result c.form_bounds.result _ (search rules) c.arg-item.is c.form_bounds.ensures none c.loop-arg.invariant

pub all_truths-loop-arg-preserved : goal.all_truths-loop-arg-preserved
all_truths-loop-arg-preserved t c =
    let found : truth_of (c.form_bounds.result ∷ []) ≡ Some c.in_ok-truth.field-0 = search rules in
    truths_turn c.args.model.now c.args.at c.args.args.now c.loop-arg.arg-index c.arg-item.result c.form_bounds.result c.in_ok-truth.field-0 _ (search rules) c.arg-item.is c.form_bounds.ensures found c.loop-arg.invariant

pub sum_of_all-returns-in_err-sum : goal.sum_of_all-returns-in_err-sum
sum_of_all-returns-in_err-sum t c =
    let sum = c.loop-arg.sum in
    let none : sum_with sum.low sum.high c.form_bounds.result ≡ None = search rules in
    let is : c.from_residual.result ≡ None = search rules in
    is ∙ sums_stop c.args.model.now c.args.at c.args.args.now c.loop-arg.arg-index c.arg-item.result c.form_bounds.result sum.low sum.high _ (search rules) c.arg-item.is c.form_bounds.ensures none c.loop-arg.invariant.rest

pub sum_of_all-loop-arg-preserved : goal.sum_of_all-loop-arg-preserved
sum_of_all-loop-arg-preserved t c =
    let sum = c.loop-arg.sum in
    let next = c.in_ok-sum.sum in
    let more : sum_with sum.low sum.high c.form_bounds.result ≡ Some (next.low, next.high) = search rules in
    record {
      rest = sums_turn c.args.model.now c.args.at c.args.args.now c.loop-arg.arg-index c.arg-item.result c.form_bounds.result sum.low sum.high next.low next.high _ (search rules) c.arg-item.is c.form_bounds.ensures more c.loop-arg.invariant.rest;
      count = search rules;
    }
