-- What `value_at` is at each form of expression.
use Rattle.std.specs.Prelude.{◌≡◌, ℕ, ℤ, pos, ◌-ℤ◌, ◌*ℤ◌, not, ◌||◌, List, map, length}
use Rattle.std.specs.Ordering.{int_eq}
use Rattle.std.specs.List.{list_any, list_all, filter, count_by}
use Rattle.std.proofs.Common.{ap, ◌∙◌}
use Rattle.std.proofs.lemmas.List.Folds.{list_all-map}
use Rattle.std.proofs.lemmas.Simd.{map-map}
use Rattle.prod_model.specs.declared.model.Model.{Model}
use Rattle.prod_model.specs.declared.expr.Expr.{Expr}
use Rattle.prod_model.specs.declared.expr.Expr.TheOpen.{Num, Attr, Count, CountOf, Sum, Total, Number, Add, Sub, Times, Cmp, Is, Kind, And, Or, Not, If, All, Any}
use Rattle.prod_model.specs.declared.expr.Expr.TheViews.{roll-Expr}
use Rattle.prod_model.specs.declared.expr.Expr.TheFolds.{fold-roll-Expr}
use Rattle.prod_model.specs.declared.expr.Relation.{Relation}
use Rattle.base_laws.proofs.Tests.{list_any_map}
use Rattle.prod_model.specs.ExprBounds.{sum_of}
use Rattle.config_value.specs.declared.configuration.Instance.{Instance}
use Rattle.config_value.specs.declared.found.Found.{Found}
use Rattle.config_value.specs.declared.found.Found.TheVariants.{Number as number, Truth as truth}
use Rattle.config_value.specs.Value.{value_at, layer_value, value_at_instance, links_at_instance, value_of, under, is_under, as_number, as_truth, holds}

module _ (m : Model) (c : List Instance) (i : ℕ) where
  pub value_at_Num : (n : ℤ) → value_at m c i (roll-Expr (Num n)) ≡ number n
  unfolding value_at
  value_at_Num n = ap (λ (f : ℕ → Found). f i) (fold-roll-Expr (ℕ → Found) (layer_value m c) (Num n))

  pub value_at_Attr : (a : ℕ) → value_at m c i (roll-Expr (Attr a)) ≡ number (value_at_instance m c a i)
  unfolding value_at
  value_at_Attr a = ap (λ (f : ℕ → Found). f i) (fold-roll-Expr (ℕ → Found) (layer_value m c) (Attr a))

  pub value_at_Count : (p : ℕ) → value_at m c i (roll-Expr (Count p)) ≡ number (pos (length (links_at_instance m c p i)))
  unfolding value_at
  value_at_Count p = ap (λ (f : ℕ → Found). f i) (fold-roll-Expr (ℕ → Found) (layer_value m c) (Count p))

  pub value_at_CountOf : (p t : ℕ) → value_at m c i (roll-Expr (CountOf p t)) ≡ number (pos (count_by (is_under m c t) (links_at_instance m c p i)))
  unfolding value_at
  value_at_CountOf p t = ap (λ (f : ℕ → Found). f i) (fold-roll-Expr (ℕ → Found) (layer_value m c) (CountOf p t))

  pub value_at_Sum : (p a : ℕ) → value_at m c i (roll-Expr (Sum p a)) ≡ number (sum_of (map (value_at_instance m c a) (links_at_instance m c p i)))
  unfolding value_at
  value_at_Sum p a = ap (λ (f : ℕ → Found). f i) (fold-roll-Expr (ℕ → Found) (layer_value m c) (Sum p a))

  pub value_at_Total : (t a : ℕ) → value_at m c i (roll-Expr (Total t a)) ≡ number (sum_of (map (λ x. value_of m x a) (filter (under m t) c)))
  unfolding value_at
  value_at_Total t a = ap (λ (f : ℕ → Found). f i) (fold-roll-Expr (ℕ → Found) (layer_value m c) (Total t a))

  pub value_at_Number : (t : ℕ) → value_at m c i (roll-Expr (Number t)) ≡ number (pos (count_by (under m t) c))
  unfolding value_at
  value_at_Number t = ap (λ (f : ℕ → Found). f i) (fold-roll-Expr (ℕ → Found) (layer_value m c) (Number t))

  pub value_at_Add : (es : List Expr) → value_at m c i (roll-Expr (Add es)) ≡ number (sum_of (map (λ e. as_number (value_at m c i e)) es))
  unfolding value_at
  value_at_Add es = ap (λ (f : ℕ → Found). f i) (fold-roll-Expr (ℕ → Found) (layer_value m c) (Add es)) ∙ simp map-map

  pub value_at_Sub : (e f : Expr) → value_at m c i (roll-Expr (Sub e f)) ≡ number (as_number (value_at m c i e) -ℤ as_number (value_at m c i f))
  unfolding value_at
  value_at_Sub e f = ap (λ (f : ℕ → Found). f i) (fold-roll-Expr (ℕ → Found) (layer_value m c) (Sub e f))

  pub value_at_Times : (k : ℤ) (e : Expr) → value_at m c i (roll-Expr (Times k e)) ≡ number (k *ℤ as_number (value_at m c i e))
  unfolding value_at
  value_at_Times k e = ap (λ (f : ℕ → Found). f i) (fold-roll-Expr (ℕ → Found) (layer_value m c) (Times k e))

  pub value_at_Cmp : (r : Relation) (e f : Expr) → value_at m c i (roll-Expr (Cmp r e f)) ≡ truth (holds r (as_number (value_at m c i e)) (as_number (value_at m c i f)))
  unfolding value_at
  value_at_Cmp r e f = ap (λ (f : ℕ → Found). f i) (fold-roll-Expr (ℕ → Found) (layer_value m c) (Cmp r e f))

  pub value_at_Is : (a w : ℕ) → value_at m c i (roll-Expr (Is a w)) ≡ truth (int_eq (value_at_instance m c a i) (pos w))
  unfolding value_at
  value_at_Is a w = ap (λ (f : ℕ → Found). f i) (fold-roll-Expr (ℕ → Found) (layer_value m c) (Is a w))

  pub value_at_Kind : (t : ℕ) → value_at m c i (roll-Expr (Kind t)) ≡ truth (is_under m c t i)
  unfolding value_at
  value_at_Kind t = ap (λ (f : ℕ → Found). f i) (fold-roll-Expr (ℕ → Found) (layer_value m c) (Kind t))

  pub value_at_And : (es : List Expr) → value_at m c i (roll-Expr (And es)) ≡ truth (list_all (λ e. as_truth (value_at m c i e)) es)
  unfolding value_at
  value_at_And es = ap (λ (f : ℕ → Found). f i) (fold-roll-Expr (ℕ → Found) (layer_value m c) (And es)) ∙ simp list_all-map

  pub value_at_Or : (es : List Expr) → value_at m c i (roll-Expr (Or es)) ≡ truth (list_any (λ e. as_truth (value_at m c i e)) es)
  unfolding value_at
  value_at_Or es = ap (λ (f : ℕ → Found). f i) (fold-roll-Expr (ℕ → Found) (layer_value m c) (Or es)) ∙ simp list_any_map

  pub value_at_Not : (e : Expr) → value_at m c i (roll-Expr (Not e)) ≡ truth (not (as_truth (value_at m c i e)))
  unfolding value_at
  value_at_Not e = ap (λ (f : ℕ → Found). f i) (fold-roll-Expr (ℕ → Found) (layer_value m c) (Not e))

  pub value_at_If : (e f : Expr) → value_at m c i (roll-Expr (If e f)) ≡ truth (not (as_truth (value_at m c i e)) || as_truth (value_at m c i f))
  unfolding value_at
  value_at_If e f = ap (λ (f : ℕ → Found). f i) (fold-roll-Expr (ℕ → Found) (layer_value m c) (If e f))

  pub value_at_All : (p : ℕ) (e : Expr) → value_at m c i (roll-Expr (All p e)) ≡ truth (list_all (λ j. as_truth (value_at m c j e)) (links_at_instance m c p i))
  unfolding value_at
  value_at_All p e = ap (λ (f : ℕ → Found). f i) (fold-roll-Expr (ℕ → Found) (layer_value m c) (All p e))

  pub value_at_Any : (p : ℕ) (e : Expr) → value_at m c i (roll-Expr (Any p e)) ≡ truth (list_any (λ j. as_truth (value_at m c j e)) (links_at_instance m c p i))
  unfolding value_at
  value_at_Any p e = ap (λ (f : ℕ → Found). f i) (fold-roll-Expr (ℕ → Found) (layer_value m c) (Any p e))

-- what an expression is at an instance, form by form
pub ruleset value_laws = (value_at_Num, value_at_Attr, value_at_Count, value_at_CountOf, value_at_Sum, value_at_Total, value_at_Number, value_at_Add, value_at_Sub, value_at_Times, value_at_Cmp, value_at_Is, value_at_Kind, value_at_And, value_at_Or, value_at_Not, value_at_If, value_at_All, value_at_Any)
