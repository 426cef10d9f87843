-- An expression is a form of the language where its count of arguments is right and each argument is such a form.
use Rattle.std.proofs.Common.{◌≡◌, ◌∙◌, sym, ap, Bool, true, ◌&&◌, List, map, length, arith}
use Rattle.std.specs.List.{list_all}
use Rattle.std.proofs.lemmas.List.{length-map}
use Rattle.prod_model.specs.declared.expr.Expr.{Expr}
use Rattle.prod_model.specs.declared.expr.Expr.TheOpen.{Expr-F, Num, Attr, Count, CountOf, Sum, Total, Number, Add, Sub, Times, Cmp, Is, Kind, And, Or, Not, If, All, Any}
use Rattle.prod_model.specs.declared.expr.Expr.TheViews.{out-Expr, roll-Expr, roll-out-Expr}
use Rattle.prod_model.specs.declared.expr.Expr.TheFolds.{fold-roll-Expr}
use Rattle.prod_model.specs.ExprBounds.{has_arguments}
use Rattle.expr_bounds.specs.steps.Arguments.{argument_list, has_right_count}
use Rattle.expr_bounds.specs.Forms.{is_form, layer_is_form}
use Rattle.expr_bounds.proofs.FormLaws.{all_map}

one : (b : Bool) → b ≡ (true && (b && true))
one b = grind (arith)

two : (b c : Bool) → (b && c) ≡ (true && (b && (c && true)))
two b c = grind (arith)

listed : (es : List Expr) → (has_arguments (map is_form es) && list_all (λ b. b) (map is_form es)) ≡ (has_arguments es && list_all is_form es)
listed es = let all = all_map es in let count : length (map is_form es) ≡ length es = simp length-map in grind (arith)

is_form_roll : (f : Expr-F Expr) → is_form (roll-Expr f) ≡ (has_right_count f && list_all is_form (argument_list f))
unfolding is_form
is_form_roll (Add args) = fold-roll-Expr Bool layer_is_form (Add args) ∙ listed args
is_form_roll (And args) = fold-roll-Expr Bool layer_is_form (And args) ∙ listed args
is_form_roll (Or args) = fold-roll-Expr Bool layer_is_form (Or args) ∙ listed args
is_form_roll (Sub e f) = fold-roll-Expr Bool layer_is_form (Sub e f) ∙ two (is_form e) (is_form f)
is_form_roll (Cmp r e f) = fold-roll-Expr Bool layer_is_form (Cmp r e f) ∙ two (is_form e) (is_form f)
is_form_roll (If e f) = fold-roll-Expr Bool layer_is_form (If e f) ∙ two (is_form e) (is_form f)
is_form_roll (Times k e) = fold-roll-Expr Bool layer_is_form (Times k e) ∙ one (is_form e)
is_form_roll (Not e) = fold-roll-Expr Bool layer_is_form (Not e) ∙ one (is_form e)
is_form_roll (All p e) = fold-roll-Expr Bool layer_is_form (All p e) ∙ one (is_form e)
is_form_roll (Any p e) = fold-roll-Expr Bool layer_is_form (Any p e) ∙ one (is_form e)
is_form_roll (Num n) = fold-roll-Expr Bool layer_is_form (Num n)
is_form_roll (Attr a) = fold-roll-Expr Bool layer_is_form (Attr a)
is_form_roll (Count p) = fold-roll-Expr Bool layer_is_form (Count p)
is_form_roll (CountOf p u) = fold-roll-Expr Bool layer_is_form (CountOf p u)
is_form_roll (Sum p a) = fold-roll-Expr Bool layer_is_form (Sum p a)
is_form_roll (Total u a) = fold-roll-Expr Bool layer_is_form (Total u a)
is_form_roll (Number u) = fold-roll-Expr Bool layer_is_form (Number u)
is_form_roll (Is a w) = fold-roll-Expr Bool layer_is_form (Is a w)
is_form_roll (Kind u) = fold-roll-Expr Bool layer_is_form (Kind u)

pub is_form_form : (e : Expr) → is_form e ≡ (has_right_count (out-Expr e) && list_all is_form (argument_list (out-Expr e)))
is_form_form e = ap is_form (sym (roll-out-Expr e)) ∙ is_form_roll (out-Expr e)
