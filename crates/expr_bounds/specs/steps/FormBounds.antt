-- What a form is at a type, from what its arguments are.
use Rattle.std.specs.Prelude.{ℕ, pos, false, [], ◌∷◌, map, if◌then◌else◌, Some, None}
use Rattle.std.specs.declared.option.Option.{Option}
use Rattle.std.specs.Option.{option_map_or, option_and_then, option_map}
use Rattle.prod_model.specs.declared.model.Model.{Model}
use Rattle.prod_model.specs.declared.expr_bounds.Bounds.{Bounds}
use Rattle.prod_model.specs.declared.expr_bounds.Bounds.TheVariants.{Number as number, Truth as truth}
use Rattle.prod_model.specs.declared.expr.Expr.{Expr}
use Rattle.prod_model.specs.declared.expr.Expr.TheOpen.{Expr-F, Num, Attr, Count, CountOf, Sum, Total, Number, Add, Sub, Times, Cmp, Is, Kind, And, Or, Not, If, All, Any}
use Rattle.prod_model.specs.Forest.{is_type}
use Rattle.prod_model.specs.Taxonomy.{attribute_of, declared_port_of}
use Rattle.prod_model.specs.ExprBounds.{bounds_at, bounded, sum_of_some, difference, multiple, comparison, truth_of, of_range, is_word_of, has_arguments}
use Rattle.prod_model.specs.steps.ExprBounds.{sum_onto}

-- what a form is at a type, from what its arguments are
abbrev pub form_bounds : Model → Expr-F Expr → ℕ → Option Bounds
form_bounds m (Num n) t = bounded n n
form_bounds m (Attr a) t = option_and_then (of_range bounded) (attribute_of m t a)
form_bounds m (Count p) t =
    option_map (λ q. number (pos q.low) (pos q.high)) (declared_port_of m t p)
form_bounds m (CountOf p u) t =
    if is_type m u then option_map (λ q. number (pos 0) (pos q.high)) (declared_port_of m t p)
    else None
form_bounds m (Sum p a) t = option_and_then
    (λ q. option_and_then (of_range (sum_of_some q.low q.high)) (attribute_of m q.target a))
    (declared_port_of m t p)
form_bounds m (Total u a) t =
    option_and_then (of_range (sum_of_some 0 m.instances)) (attribute_of m u a)
form_bounds m (Number u) t = if is_type m u then Some (number (pos 0) (pos m.instances)) else None
form_bounds m (Add args) t =
    if has_arguments args
    then sum_onto (pos 0) (pos 0) (map (λ e. bounds_at m e t) args)
    else None
form_bounds m (Sub e f) t = difference (bounds_at m e t) (bounds_at m f t)
form_bounds m (Times k e) t = multiple k (bounds_at m e t)
form_bounds m (Cmp r e f) t = comparison (bounds_at m e t) (bounds_at m f t)
form_bounds m (Is a w) t =
    if option_map_or (is_word_of m w) (attribute_of m t a) false then Some truth else None
form_bounds m (Kind u) t = if is_type m u then Some truth else None
form_bounds m (And args) t =
    if has_arguments args then truth_of (map (λ e. bounds_at m e t) args) else None
form_bounds m (Or args) t =
    if has_arguments args then truth_of (map (λ e. bounds_at m e t) args) else None
form_bounds m (Not e) t = truth_of (bounds_at m e t ∷ [])
form_bounds m (If e f) t = truth_of (bounds_at m e t ∷ bounds_at m f t ∷ [])
form_bounds m (All p e) t =
    option_and_then (λ q. truth_of (bounds_at m e q.target ∷ [])) (declared_port_of m t p)
form_bounds m (Any p e) t =
    option_and_then (λ q. truth_of (bounds_at m e q.target ∷ [])) (declared_port_of m t p)
