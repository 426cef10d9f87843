-- Which expressions are of the forms of the language.
use Rattle.std.specs.Prelude.{Bool, true, ◌&&◌}
use Rattle.std.specs.List.{list_all}
use Rattle.prod_model.specs.declared.expr.Expr.{Expr}
use Rattle.prod_model.specs.declared.expr.Expr.TheOpen.{Expr-F, Add, Sub, Times, Cmp, And, Or, Not, If, All, Any}
use Rattle.prod_model.specs.declared.expr.Expr.TheFolds.{fold-Expr}
use Rattle.prod_model.specs.ExprBounds.{has_arguments}

-- each list of arguments has 1 to 64 members
abbrev pub layer_is_form : Expr-F Bool → Bool
layer_is_form (Add args) = has_arguments args && list_all (λ b. b) args
layer_is_form (Sub e f) = e && f
layer_is_form (Times k e) = e
layer_is_form (Cmp r e f) = e && f
layer_is_form (And args) = has_arguments args && list_all (λ b. b) args
layer_is_form (Or args) = has_arguments args && list_all (λ b. b) args
layer_is_form (Not e) = e
layer_is_form (If e f) = e && f
layer_is_form (All p e) = e
layer_is_form (Any p e) = e
layer_is_form form = true

-- Each list of arguments in the expression has 1 to 64 members: the expression and all its parts
-- are of the forms of the language.
unfoldable pub is_form : Expr → Bool
is_form = fold-Expr Bool layer_is_form
