-- The argument expressions of a form, in order, and the place of the first of them.
use Rattle.std.specs.Prelude.{ℕ, Bool, true, List, [], ◌∷◌}
use Rattle.prod_model.specs.declared.expr.Expr.{Expr}
use Rattle.prod_model.specs.declared.expr.Expr.TheOpen.{Expr-F, Add, Sub, Times, Cmp, And, Or, Not, If, All, Any}
use Rattle.prod_model.specs.ExprBounds.{has_arguments}

-- the argument expressions of a form
abbrev pub argument_list : Expr-F Expr → List Expr
argument_list (Add args) = args
argument_list (Sub e f) = e ∷ f ∷ []
argument_list (Times k e) = e ∷ []
argument_list (Cmp r e f) = e ∷ f ∷ []
argument_list (And args) = args
argument_list (Or args) = args
argument_list (Not e) = e ∷ []
argument_list (If e f) = e ∷ f ∷ []
argument_list (All p e) = e ∷ []
argument_list (Any p e) = e ∷ []
argument_list form = []

-- the place of the first argument expression in the array form: 2 behind a factor or a port
abbrev pub first_place : Expr-F Expr → ℕ
first_place (Times k e) = 2
first_place (All p e) = 2
first_place (Any p e) = 2
first_place form = 1

-- a form that lists its arguments has from 1 to 64 of them
abbrev pub has_right_count : Expr-F Expr → Bool
has_right_count (Add args) = has_arguments args
has_right_count (And args) = has_arguments args
has_right_count (Or args) = has_arguments args
has_right_count form = true
