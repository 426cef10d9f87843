use Rattle.std.proofs.Common.{◌≡◌, drop, false}
use Rattle.std.specs.Prelude.{is_some}
use Rattle.std.specs.Option.{option_map_or}
use Rattle.std.specs.List.{list_all}
use Rattle.prod_model.specs.declared.expr.Expr.TheViews.{out-Expr}
use Rattle.prod_model.specs.ExprBounds.{bounds_at}
use Rattle.expr_bounds.specs.steps.Arguments.{argument_list}
use Rattle.expr_bounds.specs.steps.Search.{has_bounded_arguments}
use Rattle.expr_bounds.proofs.own.has_bounded_arguments.Given as goal

-- whether the rest have bounds is whether all have
abbrev pub invariant-loop-index : goal.invariant-loop-index
invariant-loop-index l =
    list_all (λ arg. option_map_or (λ u. is_some (bounds_at l.model arg u)) l.below false) (drop l.index (argument_list (out-Expr l.part))) ≡ has_bounded_arguments l.model l.part l.at
