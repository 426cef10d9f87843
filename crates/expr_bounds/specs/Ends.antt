-- The ends of a form: what its low and high are before the limits are applied.
use Rattle.std.specs.Prelude.{ℕ, ℤ, pos, ◌-ℤ◌, ◌*ℤ◌, Bool, false, not, ◌||◌, List, map, if◌then◌else◌, Some, None}
use Rattle.std.specs.declared.option.Option.{Option}
use Rattle.std.specs.Option.{option_map_or, option_and_then, option_map}
use Rattle.std.specs.List.{list_all}
use Rattle.std.specs.Int.{int_min, int_max}
use Rattle.prod_model.specs.declared.model.Model.{Model}
use Rattle.prod_model.specs.declared.model.AttrAt.{AttrAt}
use Rattle.prod_model.specs.declared.model.Domain.TheVariants.{Range, Words}
use Rattle.prod_model.specs.declared.expr_bounds.Bounds.{Bounds}
use Rattle.prod_model.specs.declared.expr_bounds.Bounds.TheVariants.{Number as number}
use Rattle.prod_model.specs.declared.expr.Expr.{Expr}
use Rattle.prod_model.specs.declared.expr.Expr.TheOpen.{Expr-F, Num, Attr, Sum, Total, Add, Sub, Times}
use Rattle.prod_model.specs.Limits.{is_within, farthest_bound}
use Rattle.prod_model.specs.Taxonomy.{attribute_of, declared_port_of}
use Rattle.prod_model.specs.ExprBounds.{bounds_at, is_number, low_of, high_of, sum_of}

-- the low and the high of a number, and nothing where it is a truth or has no bounds
abbrev pub ends_within : Option Bounds → Option (ℤ × ℤ)
ends_within (Some (number low high)) = Some (low, high)
ends_within _ = None

-- the low and the high of an attribute's range, and nothing where it has words
abbrev pub ends_of_range : AttrAt → Option (ℤ × ℤ)
ends_of_range a = elim a.domain [ Range low high ↦ Some (low, high) | Words words ↦ None ]

-- the ends of an attribute that a type has
abbrev pub ends_of_attribute : Model → ℕ → ℕ → Option (ℤ × ℤ)
ends_of_attribute m t a = option_and_then ends_of_range (attribute_of m t a)

-- from l to h numbers between a low and a high: what their sum lies between
abbrev pub ends_of_some : ℕ → ℕ → ℤ × ℤ → ℤ × ℤ
ends_of_some l h (a, b) =
    (int_min (pos l *ℤ a) (pos h *ℤ a), int_max (pos l *ℤ b) (pos h *ℤ b))

-- the sum of the lows, and that of the highs, where all are numbers
abbrev pub ends_of_all : List (Option Bounds) → Option (ℤ × ℤ)
ends_of_all args =
    if list_all is_number args then Some (sum_of (map low_of args), sum_of (map high_of args))
    else None

-- the least and the greatest difference of two numbers
abbrev pub ends_of_difference : ℤ × ℤ → ℤ × ℤ → ℤ × ℤ
ends_of_difference (a, b) (c, d) = (a -ℤ d, b -ℤ c)

-- the least and the greatest multiple of a number
abbrev pub ends_of_multiple : ℤ → ℤ × ℤ → ℤ × ℤ
ends_of_multiple k (a, b) = (int_min (k *ℤ a) (k *ℤ b), int_max (k *ℤ a) (k *ℤ b))

-- The low and the high that a form has at a type by arithmetic from the bounds of its arguments,
-- however far from 0 they are. It has none where one of its arguments or names gives no number.
-- Truths have none, nor have counts, which lie within the limits of a model.
abbrev pub ends_of : Model → Expr-F Expr → ℕ → Option (ℤ × ℤ)
ends_of m (Num n) t = Some (n, n)
ends_of m (Attr a) t = ends_of_attribute m t a
ends_of m (Sum p a) t =
    option_and_then (λ q. option_map (ends_of_some q.low q.high) (ends_of_attribute m q.target a))
    (declared_port_of m t p)
ends_of m (Total u a) t = option_map (ends_of_some 0 m.instances) (ends_of_attribute m u a)
ends_of m (Add args) t = ends_of_all (map (λ e. bounds_at m e t) args)
ends_of m (Sub e f) t =
    option_and_then (λ a. option_map (ends_of_difference a) (ends_within (bounds_at m f t)))
    (ends_within (bounds_at m e t))
ends_of m (Times k e) t = option_map (ends_of_multiple k) (ends_within (bounds_at m e t))
ends_of m form t = None

-- the low or the high is farther from 0 than a bound may be
abbrev pub is_beyond : ℤ × ℤ → Bool
is_beyond (low, high) =
    not (is_within farthest_bound low) || not (is_within farthest_bound high)

-- The low or the high of the form is beyond the limits, and no argument's are: where an argument
-- has no bounds the form has no ends.
abbrev pub is_wide : Model → Expr-F Expr → ℕ → Bool
is_wide m form t = option_map_or is_beyond (ends_of m form t) false
