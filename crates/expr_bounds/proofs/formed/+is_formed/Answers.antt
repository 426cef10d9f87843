use Rattle.std.proofs.Common.{◌≡◌, ◌∙◌, ◌<◌, sym, ap, false, true, ◌&&◌, length, rules, arith}
use Rattle.std.specs.List.{list_all}
use Rattle.prod_model.specs.declared.expr.Expr.TheViews.{out-Expr}
use Rattle.prod_model.specs.Nesting.{nesting}
use Rattle.expr_bounds.specs.steps.Arguments.{argument_list, has_right_count}
use Rattle.expr_bounds.specs.Forms.{is_form}
use Rattle.expr_bounds.proofs.ArgumentLaws.{nesting_argument}
use Rattle.expr_bounds.proofs.FormedLaws.{is_form_form}
use Rattle.base_laws.proofs.Steps.{all_turn, all_stop, all_end}
use Rattle.expr_bounds.proofs.formed.+is_formed.Goals as goal

pub returns-then-not-has_right_count : goal.returns-then-not-has_right_count
returns-then-not-has_right_count t c =
    let few : has_right_count (out-Expr c.args.expr.now) ≡ false = search rules in
    sym (is_form_form c.args.expr.now ∙ ap (λ b. b && list_all is_form (argument_list (out-Expr c.args.expr.now))) few)

pub is_formed-requires : goal.is_formed-requires
is_formed-requires t c =
    let less : nesting c.argument.result.now < nesting c.args.expr.now = nesting_argument c.args.expr.now c.loop-index.index c.argument.result.now c.argument.ensures in
    omega (arith, c.decreases)

pub returns-then-not-is_formed : goal.returns-then-not-is_formed
returns-then-not-is_formed t c =
    let fails : is_form c.argument.result.now ≡ false = search rules in
    let some : false ≡ list_all is_form (argument_list (out-Expr c.args.expr.now)) =
    all_stop is_form (argument_list (out-Expr c.args.expr.now)) c.loop-index.index c.argument.result.now _ c.argument.ensures fails c.loop-index.invariant in
    let few : has_right_count (out-Expr c.args.expr.now) ≡ true = search rules in
    sym (is_form_form c.args.expr.now ∙ ap (λ b. b && list_all is_form (argument_list (out-Expr c.args.expr.now))) few ∙ sym some)

pub loop-index-preserved : goal.loop-index-preserved
loop-index-preserved t c =
    let holds : is_form c.argument.result.now ≡ true = search rules in
    all_turn is_form (argument_list (out-Expr c.args.expr.now)) c.loop-index.index c.argument.result.now _ c.argument.ensures holds c.loop-index.invariant

pub returns : goal.returns
returns t c =
    let past = length (argument_list (out-Expr c.args.expr.now)) in
    let all : true ≡ list_all is_form (argument_list (out-Expr c.args.expr.now)) =
    all_end is_form (argument_list (out-Expr c.args.expr.now)) c.loop-index.index _ (omega (arith, c.argument_count-index-end.ensures)) c.loop-index.invariant in
    let few : has_right_count (out-Expr c.args.expr.now) ≡ true = search rules in
    sym (is_form_form c.args.expr.now ∙ ap (λ b. b && list_all is_form (argument_list (out-Expr c.args.expr.now))) few ∙ sym all)
