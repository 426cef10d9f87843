use Rattle.std.proofs.Common.{rules, ◌≡◌, ◌≢◌, ◌<◌, ◌∙◌, ◌∷◌, [], sym, ap, subst, map, length, arith, get_or}
use Rattle.std.specs.Prelude.{IfOk}
use Rattle.std.proofs.lemmas.Result.{IfOk-weaker}
use Rattle.serde_json.specs.Data.{array}
use Rattle.serde_json.specs.View.{view, items_view}
use Rattle.serde_json.proofs.Views.{view-Array}
use Rattle.prod_model.specs.declared.expr.Expr.{Expr}
use Rattle.file_values.specs.declared.operator.Operator.{Operator}
use Rattle.file_values.specs.declared.operator.Operator.TheVariants.{Total}
use Rattle.file_meaning.specs.Expressions.{expression_of, array_of, form_of}
use Rattle.file_meaning.specs.steps.Built.{element, elements}
use Rattle.file_meaning.proofs.BuiltForms.{elements_items, none_of_few, many_of_few, size_within}
use Rattle.file_meaning.proofs.built.+building.Goals as goal

pub expression_of-returns-in-Array : goal.expression_of-returns-in-Array
expression_of-returns-in-Array s c =
    let m = c.args.model.now in
    let is : view c.args.value.now ≡ array (items_view c.as_slice.result.now) =
    ap view c.in-Array.is ∙ view-Array c.in-Array.items ∙ ap (λ vs. array (items_view vs)) (sym c.as_slice.ensures.value) in
    let same : array_of m (elements m c.as_slice.result.now) c.args.t ≡ expression_of m (view c.args.value.now) c.args.t =
    ap (λ es. array_of m es c.args.t) (sym (elements_items m (map view c.as_slice.result.now))) ∙ sym (ap (λ d. expression_of m d c.args.t) is) in
    let Is : Expr → Type 0 = λ x. IfOk c.array_of.result (λ e. e ≡ x) in
    subst Is same c.array_of.ensures

pub form_of_few-returns-in_default : goal.form_of_few-returns-in_default
form_of_few-returns-in_default s c =
    let none : length c.args.args.now ≡ 0 = c.in_default.ensures.cases in
    sym (none_of_few c.args.model.now c.args.operator c.args.t c.args.args.now none c.requires.few)

pub form_of_few-returns-else-is_empty : goal.form_of_few-returns-else-is_empty
form_of_few-returns-else-is_empty s c =
    let first : c.args.args.now ≡ c.in-Some.first.now ∷ c.in-Some.rest.now = search rules in
    let second : c.in-Some.rest.now ≡ c.in-Some-split_first.second.now ∷ c.in-Some-split_first.more.now = search rules in
    let some : length c.in-Some-split_first.more.now ≢ 0 = search rules in
    sym (many_of_few c.args.model.now c.args.operator c.args.t c.args.args.now c.in-Some.rest.now c.in-Some-split_first.more.now c.in-Some.first.now c.in-Some-split_first.second.now first second some c.requires.few)

pub form_of_two-returns-in-Total : goal.form_of_two-returns-in-Total
form_of_two-returns-in-Total s c =
    let m = c.args.model.now in
    let is : c.args.operator ≡ Total = search rules in
    let Is : Operator → Type 0 = λ o. IfOk c.total_under.result (λ e. e ≡ form_of m o (element m (view c.args.first.now) ∷ element m (view c.args.second.now) ∷ []) c.args.t) in
    subst Is (sym is) (IfOk-weaker c.total_under.result _ _ (λ e stands. stands c.args.t) c.total_under.ensures)

pub all_at-expression_of-requires : goal.all_at-expression_of-requires
all_at-expression_of-requires s c =
    let within : c.loop-arg.arg-index < length c.args.args.now = search rules in
    let is : c.arg-item.result ≡ get_or c.args.args.now c.loop-arg.arg-index c.arg-item.result = search rules in
    let sized = size_within c.args.args.now c.loop-arg.arg-index c.arg-item.result within is in
    (omega (arith, c.decreases, sized), (c.requires.declared, c.requires.named))
