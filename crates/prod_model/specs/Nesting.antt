-- How deep an expression nests.
use Rattle.std.specs.Prelude.{ℕ, ◌+◌, max}
use Rattle.std.specs.List.{fold}
use Rattle.prod_model.specs.declared.expr.Expr.{Expr}
use Rattle.prod_model.specs.declared.expr.Expr.TheOpen.{Expr-F, Num, Attr, Count, CountOf, Sum, Total, Number, Add, Sub, Times, Cmp, Is, Kind, And, Or, Not, If, All, Any}
use Rattle.prod_model.specs.declared.expr.Expr.TheFolds.{fold-Expr}

-- 1 without argument expressions, else one more than the greatest nesting of one of them
abbrev pub layer_nesting : Expr-F ℕ → ℕ
layer_nesting (Num n) = 1
layer_nesting (Attr a) = 1
layer_nesting (Count p) = 1
layer_nesting (CountOf p t) = 1
layer_nesting (Sum p a) = 1
layer_nesting (Total t a) = 1
layer_nesting (Number t) = 1
layer_nesting (Add args) = 1 + fold max 0 args
layer_nesting (Sub e f) = 1 + max e f
layer_nesting (Times k e) = 1 + e
layer_nesting (Cmp r e f) = 1 + max e f
layer_nesting (Is a w) = 1
layer_nesting (Kind t) = 1
layer_nesting (And args) = 1 + fold max 0 args
layer_nesting (Or args) = 1 + fold max 0 args
layer_nesting (Not e) = 1 + e
layer_nesting (If e f) = 1 + max e f
layer_nesting (All p e) = 1 + e
layer_nesting (Any p e) = 1 + e

-- how many expressions stand within one another, from the whole one to the innermost
unfoldable pub nesting : Expr → ℕ
nesting = fold-Expr ℕ layer_nesting
