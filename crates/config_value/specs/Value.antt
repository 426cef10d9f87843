-- What an expression is at an instance of a configuration. It is meant for expressions without
-- fault and shaped configurations.
use Rattle.std.specs.Prelude.{ℕ, ℤ, pos, ◌-ℤ◌, ◌*ℤ◌, int_lt, int_le, Bool, false, not, ◌||◌, ◌==◌, List, [], map, length, slice_get, slice_index_or}
use Rattle.std.specs.Option.{option_map_or}
use Rattle.std.specs.Ordering.{int_eq}
use Rattle.std.specs.List.{list_any, list_all, filter, count_by, position}
use Rattle.prod_model.specs.declared.expr.Expr.{Expr}
use Rattle.prod_model.specs.declared.expr.Expr.TheOpen.{Expr-F, Num, Attr, Count, CountOf, Sum, Total, Number, Add, Sub, Times, Cmp, Is, Kind, And, Or, Not, If, All, Any}
use Rattle.prod_model.specs.declared.expr.Expr.TheFolds.{fold-Expr}
use Rattle.prod_model.specs.declared.expr.Relation.{Relation}
use Rattle.prod_model.specs.declared.expr.Relation.TheVariants.{Less, AtMost, Equal, Differs, AtLeast, Greater}
use Rattle.prod_model.specs.declared.model.Model.{Model}
use Rattle.prod_model.specs.ExprBounds.{sum_of}
use Rattle.prod_model.specs.Forest.{is_a}
use Rattle.prod_model.specs.Taxonomy.{attributes_at, ports_at}
use Rattle.config_value.specs.declared.configuration.Instance.{Instance}
use Rattle.config_value.specs.declared.found.Found.{Found}
use Rattle.config_value.specs.declared.found.Found.TheVariants.{Number as number, Truth as truth}

-- ---- what an instance has

-- the value of an attribute, by its id; 0 where the instance has no such attribute
abbrev pub value_of : Model → Instance → ℕ → ℤ
value_of m x id =
    option_map_or
    (λ k. slice_index_or x.values k (pos 0)) (position (λ a. a.id == id) (attributes_at m x.kind))
    (pos 0)

-- the links of a port, by its id; none where the instance has no such port
abbrev pub links_of : Model → Instance → ℕ → List ℕ
links_of m x id =
    option_map_or
    (λ k. slice_index_or x.links k []) (position (λ p. p.id == id) (ports_at m x.kind)) []

-- the instance is of the type, or of one under it
abbrev pub under : Model → ℕ → Instance → Bool
under m t x = is_a m x.kind t

-- what the instance of a number has, or something else where there is no such instance
abbrev pub at_instance : {A : Type 0} → List Instance → (Instance → A) → A → ℕ → A
at_instance c f otherwise i = option_map_or f (slice_get c i) otherwise

-- there is an instance of that number, and it is under the type
abbrev pub is_under : Model → List Instance → ℕ → ℕ → Bool
is_under m c t i = at_instance c (under m t) false i

-- the value of an attribute at the instance of a number; 0 where there is no such instance
abbrev pub value_at_instance : Model → List Instance → ℕ → ℕ → ℤ
value_at_instance m c id i = at_instance c (λ x. value_of m x id) (pos 0) i

-- the links of a port at the instance of a number; none where there is no such instance
abbrev pub links_at_instance : Model → List Instance → ℕ → ℕ → List ℕ
links_at_instance m c id i = at_instance c (λ x. links_of m x id) [] i

-- ---- expressions

-- the number that was found, and 0 where a truth was
abbrev pub as_number : Found → ℤ
as_number (number n) = n
as_number (truth b) = pos 0

-- whether a truth was found that is true
abbrev pub as_truth : Found → Bool
as_truth (number n) = false
as_truth (truth b) = b

-- the numbers stand so to each other
abbrev pub holds : Relation → ℤ → ℤ → Bool
holds Less a b = int_lt a b
holds AtMost a b = int_le a b
holds Equal a b = int_eq a b
holds Differs a b = not (int_eq a b)
holds AtLeast a b = int_le b a
holds Greater a b = int_lt b a

-- what a form is at instance i, from what its arguments are at each instance
abbrev pub layer_value : Model → List Instance → Expr-F (ℕ → Found) → ℕ → Found
layer_value m c (Num n) i = number n
layer_value m c (Attr a) i = number (value_at_instance m c a i)
layer_value m c (Count p) i = number (pos (length (links_at_instance m c p i)))
layer_value m c (CountOf p t) i =
    number (pos (count_by (is_under m c t) (links_at_instance m c p i)))
layer_value m c (Sum p a) i =
    number (sum_of (map (value_at_instance m c a) (links_at_instance m c p i)))
layer_value m c (Total t a) i = number (sum_of (map (λ x. value_of m x a) (filter (under m t) c)))
layer_value m c (Number t) i = number (pos (count_by (under m t) c))
layer_value m c (Add args) i = number (sum_of (map (λ e. as_number (e i)) args))
layer_value m c (Sub e f) i = number (as_number (e i) -ℤ as_number (f i))
layer_value m c (Times k e) i = number (k *ℤ as_number (e i))
layer_value m c (Cmp r e f) i = truth (holds r (as_number (e i)) (as_number (f i)))
layer_value m c (Is a w) i = truth (int_eq (value_at_instance m c a i) (pos w))
layer_value m c (Kind t) i = truth (is_under m c t i)
layer_value m c (And args) i = truth (list_all (λ e. as_truth (e i)) args)
layer_value m c (Or args) i = truth (list_any (λ e. as_truth (e i)) args)
layer_value m c (Not e) i = truth (not (as_truth (e i)))
layer_value m c (If e f) i = truth (not (as_truth (e i)) || as_truth (f i))
layer_value m c (All p e) i = truth (list_all (λ j. as_truth (e j)) (links_at_instance m c p i))
layer_value m c (Any p e) i = truth (list_any (λ j. as_truth (e j)) (links_at_instance m c p i))

-- what the expression is at instance i
unfoldable pub value_at : Model → List Instance → ℕ → Expr → Found
value_at m c i e = fold-Expr (ℕ → Found) (layer_value m c) e i

-- the number that it is at instance i
abbrev pub number_at : Model → List Instance → ℕ → Expr → ℤ
number_at m c i e = as_number (value_at m c i e)

-- whether it is true at instance i
abbrev pub is_true_at : Model → List Instance → ℕ → Expr → Bool
is_true_at m c i e = as_truth (value_at m c i e)
