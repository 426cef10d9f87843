use Rattle.std.proofs.Common.{◌≡◌, false, true, rules}
use Rattle.std.specs.Prelude.{is_some}
use Rattle.std.specs.Option.{option_map_or}
use Rattle.prod_model.specs.declared.expr.Expr.TheViews.{out-Expr}
use Rattle.prod_model.specs.ExprBounds.{bounds_at}
use Rattle.expr_bounds.specs.steps.Arguments.{argument_list}
use Rattle.base_laws.proofs.Steps.{all_turn, all_stop}
use Rattle.expr_bounds.proofs.own.has_bounded_arguments.Goals as goal

pub returns-then-not-is_bounded : goal.returns-then-not-is_bounded
returns-then-not-is_bounded c =
    let fails : option_map_or (λ u. is_some (bounds_at c.args.model.now c.argument.result.now u)) c.type_of_arguments-below.result false ≡ false = search rules in
    all_stop (λ arg. option_map_or (λ u. is_some (bounds_at c.args.model.now arg u)) c.type_of_arguments-below.result false) (argument_list (out-Expr c.args.part.now))
    c.loop-index.index c.argument.result.now _ c.argument.ensures fails c.loop-index.invariant

pub loop-index-preserved : goal.loop-index-preserved
loop-index-preserved c =
    let holds : option_map_or (λ u. is_some (bounds_at c.args.model.now c.argument.result.now u)) c.type_of_arguments-below.result false ≡ true = search rules in
    all_turn (λ arg. option_map_or (λ u. is_some (bounds_at c.args.model.now arg u)) c.type_of_arguments-below.result false) (argument_list (out-Expr c.args.part.now))
    c.loop-index.index c.argument.result.now _ c.argument.ensures holds c.loop-index.invariant
