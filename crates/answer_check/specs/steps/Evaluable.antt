-- What a form of expression is at an instance from what its arguments are, and where it can be
-- computed in 64 bits.
use Rattle.std.specs.Prelude.{◌≡◌, ℕ, ℤ, pos, neg_ℤ, Bool, false, ◌≤ℤ◌, ◌-ℤ◌, ◌*ℤ◌, not, ◌||◌, List, map, length, slice_get, Some}
use Rattle.std.specs.Ordering.{int_eq}
use Rattle.std.specs.List.{list_any, list_all, filter, count_by}
use Rattle.prod_model.specs.declared.model.Model.{Model}
use Rattle.prod_model.specs.declared.expr.Expr.{Expr}
use Rattle.prod_model.specs.declared.expr.Expr.TheOpen.{Expr-F, Num, Attr, Count, CountOf, Sum, Total, Number, Add, Sub, Times, Cmp, Is, Kind, And, Or, Not, If, All, Any}
use Rattle.prod_model.specs.Limits.{farthest_bound}
use Rattle.prod_model.specs.ExprBounds.{sum_of}
use Rattle.config_value.specs.declared.configuration.Instance.{Instance}
use Rattle.config_value.specs.declared.found.Found.{Found}
use Rattle.config_value.specs.declared.found.Found.TheVariants.{Number as number, Truth as truth}
use Rattle.config_value.specs.Value.{value_of, value_at_instance, links_at_instance, under, is_under, number_at, is_true_at, holds}
use Rattle.answer_check.specs.Faultless.{HasBoundsAt}

-- what a form is at an instance, from what its arguments are
abbrev pub form_value : Model → List Instance → ℕ → Expr-F Expr → Found
form_value m c i (Num n) = number n
form_value m c i (Attr a) = number (value_at_instance m c a i)
form_value m c i (Count p) = number (pos (length (links_at_instance m c p i)))
form_value m c i (CountOf p t) =
    number (pos (count_by (is_under m c t) (links_at_instance m c p i)))
form_value m c i (Sum p a) =
    number (sum_of (map (value_at_instance m c a) (links_at_instance m c p i)))
form_value m c i (Total t a) = number (sum_of (map (λ x. value_of m x a) (filter (under m t) c)))
form_value m c i (Number t) = number (pos (count_by (under m t) c))
form_value m c i (Add args) = number (sum_of (map (number_at m c i) args))
form_value m c i (Sub e f) = number (number_at m c i e -ℤ number_at m c i f)
form_value m c i (Times k e) = number (k *ℤ number_at m c i e)
form_value m c i (Cmp r e f) = truth (holds r (number_at m c i e) (number_at m c i f))
form_value m c i (Is a w) = truth (int_eq (value_at_instance m c a i) (pos w))
form_value m c i (Kind t) = truth (is_under m c t i)
form_value m c i (And args) = truth (list_all (is_true_at m c i) args)
form_value m c i (Or args) = truth (list_any (is_true_at m c i) args)
form_value m c i (Not e) = truth (not (is_true_at m c i e))
form_value m c i (If e f) = truth (not (is_true_at m c i e) || is_true_at m c i f)
form_value m c i (All p e) = truth (list_all (λ j. is_true_at m c j e) (links_at_instance m c p i))
form_value m c i (Any p e) = truth (list_any (λ j. is_true_at m c j e) (links_at_instance m c p i))

-- whether a truth without truths in it holds at an instance
abbrev pub simple_truth : Model → List Instance → ℕ → Expr-F Expr → Bool
simple_truth m c i (Cmp r e f) = holds r (number_at m c i e) (number_at m c i f)
simple_truth m c i (Is a w) = int_eq (value_at_instance m c a i) (pos w)
simple_truth m c i (Kind t) = is_under m c t i
simple_truth m c i form = false

-- a number no farther from 0 than a bound of an expression may be
pub record IsSmall (n : ℤ) : Type 0 where
  pub low : neg_ℤ farthest_bound ≤ℤ n
  pub high : n ≤ℤ farthest_bound

-- each argument has bounds at the instance
abbrev pub EachHasBounds : Model → List Instance → ℕ → List Expr → Type 0
EachHasBounds m c i args = (k : ℕ) (e : Expr) → slice_get args k ≡ Some e → HasBoundsAt m c i e

-- the argument has bounds at each linked instance
abbrev pub HasBoundsAtEach : Model → List Instance → List ℕ → Expr → Type 0
HasBoundsAtEach m c links e = (k j : ℕ) → slice_get links k ≡ Some j → HasBoundsAt m c j e

-- the arguments of a form have bounds where they are asked for, and its sums are small
abbrev pub IsEvaluable : Model → List Instance → ℕ → Expr-F Expr → Type 0
IsEvaluable m c i (Num n) = Unit {0}
IsEvaluable m c i (Attr a) = Unit {0}
IsEvaluable m c i (Count p) = Unit {0}
IsEvaluable m c i (CountOf p t) = Unit {0}
IsEvaluable m c i (Sum p a) =
    IsSmall (sum_of (map (value_at_instance m c a) (links_at_instance m c p i)))
IsEvaluable m c i (Total t a) = IsSmall (sum_of (map (λ x. value_of m x a) (filter (under m t) c)))
IsEvaluable m c i (Number t) = Unit {0}
IsEvaluable m c i (Add args) =
    EachHasBounds m c i args × IsSmall (sum_of (map (number_at m c i) args))
IsEvaluable m c i (Sub e f) =
    HasBoundsAt m c i e × HasBoundsAt m c i f × IsSmall (number_at m c i e -ℤ number_at m c i f)
IsEvaluable m c i (Times k e) = HasBoundsAt m c i e × IsSmall (k *ℤ number_at m c i e)
IsEvaluable m c i (Cmp r e f) = HasBoundsAt m c i e × HasBoundsAt m c i f
IsEvaluable m c i (Is a w) = Unit {0}
IsEvaluable m c i (Kind t) = Unit {0}
IsEvaluable m c i (And args) = EachHasBounds m c i args
IsEvaluable m c i (Or args) = EachHasBounds m c i args
IsEvaluable m c i (Not e) = HasBoundsAt m c i e
IsEvaluable m c i (If e f) = HasBoundsAt m c i e × HasBoundsAt m c i f
IsEvaluable m c i (All p e) = HasBoundsAtEach m c (links_at_instance m c p i) e
IsEvaluable m c i (Any p e) = HasBoundsAtEach m c (links_at_instance m c p i) e
