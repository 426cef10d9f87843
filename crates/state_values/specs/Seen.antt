-- What an expression is at a made instance of a state, as far as the state tells: a number between
-- a low and a high, or a three-valued truth. It is meant for expressions without fault at a type
-- that every possible type of the instance is under.
use Rattle.std.specs.Prelude.{ℕ, ℤ, pos, List, [], map, if◌then◌else◌}
use Rattle.std.specs.declared.option.Option.{Option}
use Rattle.std.specs.Option.{option_map_or}
use Rattle.prod_model.specs.declared.model.Model.{Model}
use Rattle.prod_model.specs.declared.expr.Expr.{Expr, map-Expr}
use Rattle.prod_model.specs.declared.expr.Expr.TheOpen.{Expr-F, Num, Attr, Count, CountOf, Sum, Total, Number, Add, Sub, Times, Cmp, Is, Kind, And, Or, Not, If, All, Any}
use Rattle.prod_model.specs.declared.expr.Expr.TheViews.{roll-Expr}
use Rattle.prod_model.specs.declared.expr.Expr.TheFolds.{fold-Expr}
use Rattle.prod_model.specs.declared.expr_bounds.Bounds.{Bounds}
use Rattle.prod_model.specs.ExprBounds.{bounds_at}
use Rattle.prod_model.specs.Forest.{is_a}
use Rattle.prod_model.specs.Taxonomy.{declared_port_of}
use Rattle.config_value.specs.declared.literal.Literal.{Literal}
use Rattle.state_space.specs.State.{State}
use Rattle.state_values.specs.Kleene.{Kleene, False, Open, shown_by, negated, both, either, implied, all_of, any_of}
use Rattle.state_values.specs.Ranges.{Range, exactly, ranges_sum, range_difference, range_multiple, clamped, compared}
use Rattle.state_values.specs.Tallies.{tally}
use Rattle.state_values.specs.Sights.{made_numbers, is_surely_under, under_type, linked, is_closed, value_range, has_word, least_at, greatest_at, or_zero, one, one_if, one_under, value_under, linked_under, fresh_rest, unmade_rest, share_leaf}

-- a number between two ends, or a truth
pub data Seen : Type 0 where
  Between : Range → Seen
  Truth : Kleene → Seen

-- the range of a number; 0 for a truth
abbrev pub as_range : Seen → Range
as_range (Between r) = r
as_range (Truth o) = exactly (pos 0)

-- the truth; false for a number
abbrev pub as_kleene : Seen → Kleene
as_kleene (Between r) = False []
as_kleene (Truth o) = o

-- a part of an expression: itself, and what it is at each type and instance
pub record Part : Type 0 where
  pub expr : Expr
  pub seen : ℕ → ℕ → Seen

-- what a truth is at a linked instance: open where that may be outside the target
abbrev pub at_linked : Model → State → Part → ℕ → ℕ → Kleene
at_linked m s e target j =
    if is_surely_under m s target j then as_kleene (e.seen target j) else Open

-- what a form is at instance i, where it stands at type t, from what its parts are
abbrev pub layer_seen : Model → State → Expr-F Part → ℕ → ℕ → Seen
layer_seen m s (Num n) t i = Between (exactly n)
layer_seen m s (Attr a) t i = Between (value_range s a i)
layer_seen m s (Count p) t i = Between
    (tally (map (λ j. one (linked s i p j)) (made_numbers s))
    (fresh_rest s i p (pos 1) (pos 1)))
layer_seen m s (CountOf p u) t i = Between (option_map_or
    (λ q. tally (map (λ j. one_under m s u (linked s i p j) j) (made_numbers s))
    (fresh_rest s i p (one_if (is_a m q.target u)) (one_if (share_leaf m u q.target))))
    (declared_port_of m t p) (exactly (pos 0)))
layer_seen m s (Sum p a) t i = Between (option_map_or
    (λ q. tally
    (map (λ j. value_under m s q.target a (linked_under m s i p q.target j) j) (made_numbers s))
    (fresh_rest s i p (or_zero (least_at m q.target a)) (or_zero (greatest_at m q.target a))))
    (declared_port_of m t p) (exactly (pos 0)))
layer_seen m s (Total u a) t i = Between
    (tally (map (λ j. value_under m s u a (under_type m s u j) j) (made_numbers s))
    (unmade_rest m s (or_zero (least_at m u a)) (or_zero (greatest_at m u a))))
layer_seen m s (Number u) t i = Between
    (tally (map (λ j. one (under_type m s u j)) (made_numbers s))
    (unmade_rest m s (pos 1) (pos 1)))
layer_seen m s (Add es) t i = Between (ranges_sum (map (λ e. as_range (e.seen t i)) es))
layer_seen m s (Sub e f) t i = Between
    (range_difference (as_range (e.seen t i)) (as_range (f.seen t i)))
layer_seen m s (Times k e) t i = Between (range_multiple k (as_range (e.seen t i)))
layer_seen m s (Cmp r e f) t i = Truth
    (compared r (as_range (e.seen t i)) (as_range (f.seen t i)))
layer_seen m s (Is a w) t i = Truth (has_word s i a w)
layer_seen m s (Kind u) t i = Truth (under_type m s u i)
layer_seen m s (And es) t i = Truth (all_of (map (λ e. as_kleene (e.seen t i)) es))
layer_seen m s (Or es) t i = Truth (any_of (map (λ e. as_kleene (e.seen t i)) es))
layer_seen m s (Not e) t i = Truth (negated (as_kleene (e.seen t i)))
layer_seen m s (If e f) t i = Truth (implied (as_kleene (e.seen t i)) (as_kleene (f.seen t i)))
layer_seen m s (All p e) t i = Truth (option_map_or
    (λ q. both
    (all_of (map (λ j. implied (linked s i p j) (at_linked m s e q.target j)) (made_numbers s)))
    (is_closed s i p))
    (declared_port_of m t p) Open)
layer_seen m s (Any p e) t i = Truth (option_map_or
    (λ q. either
    (any_of (map (λ j. both (linked s i p j) (at_linked m s e q.target j)) (made_numbers s)))
    (negated (is_closed s i p)))
    (declared_port_of m t p) Open)

-- a number is brought into its own bounds
abbrev pub within_bounds : Option Bounds → Seen → Seen
within_bounds b (Between r) = Between (clamped b r)
within_bounds b (Truth o) = Truth o

-- a form with its parts, itself a part
abbrev pub part_of : Model → State → Expr-F Part → Part
part_of m s f = let e = roll-Expr (map-Expr Part Expr (λ x. x.expr) f) in
    record { expr = e; seen = λ t i. within_bounds (bounds_at m e t) (layer_seen m s f t i) }

-- what an expression that stands at type t is at instance i
unfoldable pub seen_at : Model → State → ℕ → ℕ → Expr → Seen
seen_at m s t i e = (fold-Expr Part (part_of m s) e).seen t i

-- ---- the words for it

-- the least that a number can be
abbrev pub low : Model → State → ℕ → ℕ → Expr → ℤ
low m s t i e = (as_range (seen_at m s t i e)).low.number

-- the greatest that a number can be
abbrev pub high : Model → State → ℕ → ℕ → Expr → ℤ
high m s t i e = (as_range (seen_at m s t i e)).high.number

-- what a truth is
abbrev pub truth : Model → State → ℕ → ℕ → Expr → Kleene
truth m s t i e = as_kleene (seen_at m s t i e)

-- the literals that show the low
abbrev pub low_reads : Model → State → ℕ → ℕ → Expr → List Literal
low_reads m s t i e = (as_range (seen_at m s t i e)).low.by

-- the literals that show the high
abbrev pub high_reads : Model → State → ℕ → ℕ → Expr → List Literal
high_reads m s t i e = (as_range (seen_at m s t i e)).high.by

-- the literals that show a truth; none where it is open
abbrev pub truth_reads : Model → State → ℕ → ℕ → Expr → List Literal
truth_reads m s t i e = shown_by (truth m s t i e)
