-- What a form is at a type and at an instance, from what its parts are.
use Rattle.std.specs.Prelude.{ℕ, ℤ, pos, ◌-ℤ◌, ◌*ℤ◌, List, map, Some, None}
use Rattle.std.specs.declared.option.Option.{Option}
use Rattle.std.specs.Int.{int_min, int_max}
use Rattle.std.specs.Option.{option_map_or}
use Rattle.prod_model.specs.declared.model.Model.{Model}
use Rattle.prod_model.specs.declared.model.AttrAt.{AttrAt}
use Rattle.prod_model.specs.declared.model.Domain.TheVariants as domain
use Rattle.prod_model.specs.declared.expr.Expr.{Expr, map-Expr}
use Rattle.prod_model.specs.declared.expr.Expr.TheOpen.{Expr-F, Num, Attr, Count, CountOf, Sum, Total, Number, Add, Sub, Times}
use Rattle.prod_model.specs.ExprBounds.{bounds_at, low_of, high_of, sum_of}
use Rattle.prod_model.specs.Taxonomy.{port_of}
use Rattle.state_space.specs.State.{State}
use Rattle.state_values.specs.declared.interval.Ends.{Ends}
use Rattle.state_values.specs.declared.sums.Unmade.{Unmade}
use Rattle.state_values.specs.Sights.{least_at, greatest_at, or_zero}
use Rattle.state_values.specs.Seen.{Seen, Part, layer_seen, seen_at, low, high}

-- an expression as a part of another
abbrev pub part_at : Model → State → Expr → Part
part_at m s e = record { expr = e; seen = λ t i. seen_at m s t i e }

-- what a form is at instance i, where it stands at type t
abbrev pub form_seen : Model → State → ℕ → ℕ → Expr-F Expr → Seen
form_seen m s t i form = layer_seen m s (map-Expr Expr Part (part_at m s) form) t i

-- ---- the bounds of numbers at a type

-- the least number of an attribute's range
abbrev pub least_of : AttrAt → Option ℤ
least_of q = elim q.domain [ domain.Range low high ↦ Some low | domain.Words words ↦ None ]

-- the greatest
abbrev pub greatest_of : AttrAt → Option ℤ
greatest_of q = elim q.domain [ domain.Range low high ↦ Some high | domain.Words words ↦ None ]

-- two numbers
abbrev pub pair : ℤ → ℤ → Ends
pair low high = record { low = low; high = high }

-- what equal numbers add together, from fewest to most of them
abbrev pub multiples : Unmade → Ends
multiples r = record {
  low = int_min (pos r.fewest *ℤ r.low) (pos r.most *ℤ r.low);
  high = int_max (pos r.fewest *ℤ r.high) (pos r.most *ℤ r.high);
}

-- from fewest to most values of an attribute at a type
abbrev pub values_at : Model → ℕ → ℕ → ℕ → ℕ → Unmade
values_at m fewest most u a = record {
  fewest = fewest;
  most = most;
  low = or_zero (least_at m u a);
  high = or_zero (greatest_at m u a);
}

-- the sums of the lows and of the highs of all arguments
abbrev pub own_sum : Model → ℕ → List Expr → Ends
own_sum m t es = record {
  low = sum_of (map (λ e. low_of (bounds_at m e t)) es);
  high = sum_of (map (λ e. high_of (bounds_at m e t)) es);
}

-- the bounds of a number at type t, from those of its parts; 0 of a truth
abbrev pub form_own : Model → ℕ → Expr-F Expr → Ends
form_own m t (Num n) = pair n n
form_own m t (Attr a) = pair (or_zero (least_at m t a)) (or_zero (greatest_at m t a))
form_own m t (Count p) =
    option_map_or (λ q. pair (pos q.low) (pos q.high)) (port_of m t p) (pair (pos 0) (pos 0))
form_own m t (CountOf p u) =
    option_map_or (λ q. pair (pos 0) (pos q.high)) (port_of m t p) (pair (pos 0) (pos 0))
form_own m t (Sum p a) =
    option_map_or (λ q. multiples (values_at m q.low q.high q.target a)) (port_of m t p)
    (pair (pos 0) (pos 0))
form_own m t (Total u a) = multiples (values_at m 0 m.instances u a)
form_own m t (Number u) = pair (pos 0) (pos m.instances)
form_own m t (Add es) = own_sum m t es
form_own m t (Sub e f) =
    pair (low_of (bounds_at m e t) -ℤ high_of (bounds_at m f t))
    (high_of (bounds_at m e t) -ℤ low_of (bounds_at m f t))
form_own m t (Times k e) =
    let a = low_of (bounds_at m e t) in let b = high_of (bounds_at m e t) in
    pair (int_min (k *ℤ a) (k *ℤ b)) (int_max (k *ℤ a) (k *ℤ b))
form_own m t form = pair (pos 0) (pos 0)

-- ---- what numbers of the arguments add together in a state

-- the sums of the lows and of the highs of all arguments
abbrev pub seen_sum : Model → State → ℕ → ℕ → List Expr → Ends
seen_sum m s t i es = record {
  low = sum_of (map (low m s t i) es);
  high = sum_of (map (high m s t i) es);
}
