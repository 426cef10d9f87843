-- What an expression is at a type: a truth, or a number between two bounds.
use Rattle.std.specs.Prelude.{ℕ, ℤ, pos, ◌+ℤ◌, ◌-ℤ◌, ◌*ℤ◌, Bool, true, false, ◌&&◌, nat_lt, nat_le, List, [], ◌∷◌, map, length, if◌then◌else◌, Some, None}
use Rattle.std.specs.declared.option.Option.{Option}
use Rattle.std.specs.Option.{option_map_or, option_and_then, option_map}
use Rattle.std.specs.Int.{int_min, int_max}
use Rattle.std.specs.List.{list_all, fold}
use Rattle.prod_model.specs.declared.model.Model.{Model}
use Rattle.prod_model.specs.declared.model.AttrAt.{AttrAt}
use Rattle.prod_model.specs.declared.model.Domain.TheVariants.{Range, Words}
use Rattle.prod_model.specs.declared.expr_bounds.Bounds.{Bounds}
use Rattle.prod_model.specs.declared.expr_bounds.Bounds.TheVariants.{Number as number, Truth as truth}
use Rattle.prod_model.specs.declared.expr.Expr.{Expr}
use Rattle.prod_model.specs.declared.expr.Expr.TheOpen.{Expr-F, Num, Attr, Count, CountOf, Sum, Total, Number, Add, Sub, Times, Cmp, Is, Kind, And, Or, Not, If, All, Any}
use Rattle.prod_model.specs.declared.expr.Expr.TheFolds.{fold-Expr}
use Rattle.prod_model.specs.Limits.{is_within, is_between, farthest_bound, most_arguments, most_nesting}
use Rattle.prod_model.specs.Forest.{is_type}
use Rattle.prod_model.specs.Taxonomy.{attribute_of, declared_port_of, first_words}
use Rattle.prod_model.specs.Nesting.{nesting}

-- a number between two bounds, and nothing where one of them leaves the limits
abbrev pub bounded : ℤ → ℤ → Option Bounds
bounded low high =
    if is_within farthest_bound low && is_within farthest_bound high then Some (number low high)
    else None

-- from l to h numbers that lie between a and b each: what their sum lies between
abbrev pub sum_of_some : ℕ → ℕ → ℤ → ℤ → Option Bounds
sum_of_some l h a b =
    bounded (int_min (pos l *ℤ a) (pos h *ℤ a)) (int_max (pos l *ℤ b) (pos h *ℤ b))

-- a number, and no truth or fault
abbrev pub is_number : Option Bounds → Bool
is_number (Some (number low high)) = true
is_number _ = false

-- the low end of a number
abbrev pub low_of : Option Bounds → ℤ
low_of (Some (number low high)) = low
low_of _ = pos 0

-- the high end of a number
abbrev pub high_of : Option Bounds → ℤ
high_of (Some (number low high)) = high
high_of _ = pos 0

-- the sum of whole numbers
abbrev pub sum_of : List ℤ → ℤ
sum_of ns = fold ◌+ℤ◌ (pos 0) ns

-- from the sum of the lows to the sum of the highs, and nothing where one of them is no number
abbrev pub sum_of_all : List (Option Bounds) → Option Bounds
sum_of_all args =
    if list_all is_number args then bounded (sum_of (map low_of args)) (sum_of (map high_of args))
    else None

-- the first number less the second
abbrev pub difference : Option Bounds → Option Bounds → Option Bounds
difference (Some (number a b)) (Some (number c d)) = bounded (a -ℤ d) (b -ℤ c)
difference _ _ = None

-- a number times a factor
abbrev pub multiple : ℤ → Option Bounds → Option Bounds
multiple k (Some (number a b)) =
    bounded (int_min (k *ℤ a) (k *ℤ b)) (int_max (k *ℤ a) (k *ℤ b))
multiple k _ = None

-- a truth, if both are numbers
abbrev pub comparison : Option Bounds → Option Bounds → Option Bounds
comparison (Some (number a b)) (Some (number c d)) = Some truth
comparison _ _ = None

-- a truth, if all are truths
abbrev pub truth_of : List (Option Bounds) → Option Bounds
truth_of [] = Some truth
truth_of (Some truth ∷ more) = truth_of more
truth_of _ = None

-- the ends of an attribute's range, and nothing where it has words
abbrev pub of_range : (ℤ → ℤ → Option Bounds) → AttrAt → Option Bounds
of_range f a = elim a.domain [ Range low high ↦ f low high | Words words ↦ None ]

-- the value of a word of the attribute's first declaration, where the attribute has words
abbrev pub is_word_of : Model → ℕ → AttrAt → Bool
is_word_of m w a =
    elim a.domain [ Range low high ↦ false | Words words ↦ nat_lt w (length (first_words m a.id)) ]

-- 1 to 64 arguments
abbrev pub has_arguments : {A : Type 0} → List A → Bool
has_arguments args = is_between 1 most_arguments (length args)

-- what a form is at type t, from what its arguments are at each type: nothing where it has a fault
-- there
abbrev pub layer_bounds : Model → Expr-F (ℕ → Option Bounds) → ℕ → Option Bounds
layer_bounds m (Num n) t = bounded n n
layer_bounds m (Attr a) t = option_and_then (of_range bounded) (attribute_of m t a)
layer_bounds m (Count p) t =
    option_map (λ q. number (pos q.low) (pos q.high)) (declared_port_of m t p)
layer_bounds m (CountOf p u) t =
    if is_type m u then option_map (λ q. number (pos 0) (pos q.high)) (declared_port_of m t p)
    else None
layer_bounds m (Sum p a) t =
    option_and_then (λ q. option_and_then (of_range (sum_of_some q.low q.high))
    (attribute_of m q.target a)) (declared_port_of m t p)
layer_bounds m (Total u a) t =
    option_and_then (of_range (sum_of_some 0 m.instances)) (attribute_of m u a)
layer_bounds m (Number u) t = if is_type m u then Some (number (pos 0) (pos m.instances)) else None
layer_bounds m (Add args) t =
    if has_arguments args then sum_of_all (map (λ e. e t) args) else None
layer_bounds m (Sub e f) t = difference (e t) (f t)
layer_bounds m (Times k e) t = multiple k (e t)
layer_bounds m (Cmp r e f) t = comparison (e t) (f t)
layer_bounds m (Is a w) t =
    if option_map_or (is_word_of m w) (attribute_of m t a) false then Some truth else None
layer_bounds m (Kind u) t = if is_type m u then Some truth else None
layer_bounds m (And args) t = if has_arguments args then truth_of (map (λ e. e t) args) else None
layer_bounds m (Or args) t = if has_arguments args then truth_of (map (λ e. e t) args) else None
layer_bounds m (Not e) t = truth_of (e t ∷ [])
layer_bounds m (If e f) t = truth_of (e t ∷ f t ∷ [])
layer_bounds m (All p e) t =
    option_and_then (λ q. truth_of (e q.target ∷ [])) (declared_port_of m t p)
layer_bounds m (Any p e) t =
    option_and_then (λ q. truth_of (e q.target ∷ [])) (declared_port_of m t p)

-- What the expression is at a type. It is nothing where a name that it uses isn't one there, a
-- number stands where a truth is needed or the reverse, or the bounds of one of its parts leave the
-- limits.
unfoldable pub bounds_at : Model → Expr → ℕ → Option Bounds
bounds_at m e t = fold-Expr (ℕ → Option Bounds) (layer_bounds m) e t

-- a truth, and no number or fault
abbrev pub is_truth : Option Bounds → Bool
is_truth (Some truth) = true
is_truth _ = false

-- a truth without fault at a type
abbrev pub is_truth_at : Model → ℕ → Expr → Bool
is_truth_at m t e = nat_le (nesting e) most_nesting && is_truth (bounds_at m e t)

-- a number without fault at a type
abbrev pub is_number_at : Model → ℕ → Expr → Bool
is_number_at m t e = nat_le (nesting e) most_nesting && is_number (bounds_at m e t)
