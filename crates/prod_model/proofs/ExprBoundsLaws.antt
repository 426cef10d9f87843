-- What `bounds_at` and `nesting` are at each form of expression.
use Rattle.std.specs.Prelude.{◌≡◌, ℕ, ℤ, pos, ◌+◌, ◌+ℤ◌, max, false, List, [], ◌∷◌, map, if◌then◌else◌, Some, None}
use Rattle.std.specs.declared.option.Option.{Option}
use Rattle.std.specs.Option.{option_map_or, option_and_then, option_map}
use Rattle.std.specs.List.{list_all, fold}
use Rattle.std.proofs.Common.{ap, ◌∙◌, refl}
use Rattle.std.proofs.lemmas.List.{length-map}
use Rattle.std.proofs.lemmas.List.Folds.{fold-map}
use Rattle.std.proofs.lemmas.Simd.{map-map}
use Rattle.prod_model.specs.declared.model.Model.{Model}
use Rattle.prod_model.specs.declared.expr_bounds.Bounds.{Bounds}
use Rattle.prod_model.specs.declared.expr_bounds.Bounds.TheVariants.{Number as number, Truth as truth}
use Rattle.prod_model.specs.declared.expr.Expr.{Expr}
use Rattle.prod_model.specs.declared.expr.Expr.TheOpen.{Num, Attr, Count, CountOf, Sum, Total, Number, Add, Sub, Times, Cmp, Is, Kind, And, Or, Not, If, All, Any}
use Rattle.prod_model.specs.declared.expr.Expr.TheViews.{roll-Expr}
use Rattle.prod_model.specs.declared.expr.Expr.TheFolds.{fold-roll-Expr}
use Rattle.prod_model.specs.declared.expr.Relation.{Relation}
use Rattle.prod_model.specs.Forest.{is_type}
use Rattle.prod_model.specs.Taxonomy.{attribute_of, declared_port_of}
use Rattle.prod_model.specs.Nesting.{nesting, layer_nesting}
use Rattle.prod_model.specs.steps.ExprBounds.{sum_onto}
use Rattle.prod_model.specs.ExprBounds.{bounds_at, layer_bounds, bounded, is_number, low_of, high_of, sum_of_some, sum_of_all, difference, multiple, comparison, truth_of, of_range, is_word_of, has_arguments}

-- the sums of the lows and of the highs, begun at any two numbers, are what adding one argument after another gives
sum_added : (low high : ℤ) (os : List (Option Bounds))
    → (if list_all is_number os then bounded (fold ◌+ℤ◌ low (map low_of os)) (fold ◌+ℤ◌ high (map high_of os)) else None)
    ≡ sum_onto low high os
sum_added low high [] = refl
sum_added low high (Some (number a b) ∷ os) = sum_added (low +ℤ a) (high +ℤ b) os
sum_added low high (Some truth ∷ os) = refl
sum_added low high (None ∷ os) = refl

-- the sum of all arguments is found by adding one after another to 0
pub sum_of_all_added : (os : List (Option Bounds)) → sum_of_all os ≡ sum_onto (pos 0) (pos 0) os
sum_of_all_added os = sum_added (pos 0) (pos 0) os

module _ (m : Model) (t : ℕ) where
  pub bounds_at_Num : (n : ℤ) → bounds_at m (roll-Expr (Num n)) t ≡ bounded n n
  unfolding bounds_at
  bounds_at_Num n = ap (λ (f : ℕ → Option Bounds). f t) (fold-roll-Expr (ℕ → Option Bounds) (layer_bounds m) (Num n))

  pub bounds_at_Attr : (a : ℕ) → bounds_at m (roll-Expr (Attr a)) t ≡ option_and_then (of_range bounded) (attribute_of m t a)
  unfolding bounds_at
  bounds_at_Attr a = ap (λ (f : ℕ → Option Bounds). f t) (fold-roll-Expr (ℕ → Option Bounds) (layer_bounds m) (Attr a))

  pub bounds_at_Count : (p : ℕ) → bounds_at m (roll-Expr (Count p)) t ≡ option_map (λ q. number (pos q.low) (pos q.high)) (declared_port_of m t p)
  unfolding bounds_at
  bounds_at_Count p = ap (λ (f : ℕ → Option Bounds). f t) (fold-roll-Expr (ℕ → Option Bounds) (layer_bounds m) (Count p))

  pub bounds_at_CountOf : (p u : ℕ) → bounds_at m (roll-Expr (CountOf p u)) t ≡ (if is_type m u then option_map (λ q. number (pos 0) (pos q.high)) (declared_port_of m t p) else None)
  unfolding bounds_at
  bounds_at_CountOf p u = ap (λ (f : ℕ → Option Bounds). f t) (fold-roll-Expr (ℕ → Option Bounds) (layer_bounds m) (CountOf p u))

  pub bounds_at_Sum : (p a : ℕ) → bounds_at m (roll-Expr (Sum p a)) t ≡ option_and_then (λ q. option_and_then (of_range (sum_of_some q.low q.high)) (attribute_of m q.target a)) (declared_port_of m t p)
  unfolding bounds_at
  bounds_at_Sum p a = ap (λ (f : ℕ → Option Bounds). f t) (fold-roll-Expr (ℕ → Option Bounds) (layer_bounds m) (Sum p a))

  pub bounds_at_Total : (u a : ℕ) → bounds_at m (roll-Expr (Total u a)) t ≡ option_and_then (of_range (sum_of_some 0 m.instances)) (attribute_of m u a)
  unfolding bounds_at
  bounds_at_Total u a = ap (λ (f : ℕ → Option Bounds). f t) (fold-roll-Expr (ℕ → Option Bounds) (layer_bounds m) (Total u a))

  pub bounds_at_Number : (u : ℕ) → bounds_at m (roll-Expr (Number u)) t ≡ (if is_type m u then Some (number (pos 0) (pos m.instances)) else None)
  unfolding bounds_at
  bounds_at_Number u = ap (λ (f : ℕ → Option Bounds). f t) (fold-roll-Expr (ℕ → Option Bounds) (layer_bounds m) (Number u))

  pub bounds_at_Add : (es : List Expr) → bounds_at m (roll-Expr (Add es)) t ≡ (if has_arguments es then sum_of_all (map (λ e. bounds_at m e t) es) else None)
  unfolding bounds_at
  bounds_at_Add es = ap (λ (f : ℕ → Option Bounds). f t) (fold-roll-Expr (ℕ → Option Bounds) (layer_bounds m) (Add es)) ∙ simp (map-map, length-map)

  -- the same, adding one argument after another
  pub bounds_at_Add_onto : (es : List Expr) → bounds_at m (roll-Expr (Add es)) t
      ≡ (if has_arguments es then sum_onto (pos 0) (pos 0) (map (λ e. bounds_at m e t) es) else None)
  bounds_at_Add_onto es =
      bounds_at_Add es
      ∙ ap (λ o. if has_arguments es then o else None) (sum_of_all_added (map (λ e. bounds_at m e t) es))

  pub bounds_at_Sub : (e f : Expr) → bounds_at m (roll-Expr (Sub e f)) t ≡ difference (bounds_at m e t) (bounds_at m f t)
  unfolding bounds_at
  bounds_at_Sub e f = ap (λ (f : ℕ → Option Bounds). f t) (fold-roll-Expr (ℕ → Option Bounds) (layer_bounds m) (Sub e f))

  pub bounds_at_Times : (k : ℤ) (e : Expr) → bounds_at m (roll-Expr (Times k e)) t ≡ multiple k (bounds_at m e t)
  unfolding bounds_at
  bounds_at_Times k e = ap (λ (f : ℕ → Option Bounds). f t) (fold-roll-Expr (ℕ → Option Bounds) (layer_bounds m) (Times k e))

  pub bounds_at_Cmp : (r : Relation) (e f : Expr) → bounds_at m (roll-Expr (Cmp r e f)) t ≡ comparison (bounds_at m e t) (bounds_at m f t)
  unfolding bounds_at
  bounds_at_Cmp r e f = ap (λ (f : ℕ → Option Bounds). f t) (fold-roll-Expr (ℕ → Option Bounds) (layer_bounds m) (Cmp r e f))

  pub bounds_at_Is : (a w : ℕ) → bounds_at m (roll-Expr (Is a w)) t ≡ (if option_map_or (is_word_of m w) (attribute_of m t a) false then Some truth else None)
  unfolding bounds_at
  bounds_at_Is a w = ap (λ (f : ℕ → Option Bounds). f t) (fold-roll-Expr (ℕ → Option Bounds) (layer_bounds m) (Is a w))

  pub bounds_at_Kind : (u : ℕ) → bounds_at m (roll-Expr (Kind u)) t ≡ (if is_type m u then Some truth else None)
  unfolding bounds_at
  bounds_at_Kind u = ap (λ (f : ℕ → Option Bounds). f t) (fold-roll-Expr (ℕ → Option Bounds) (layer_bounds m) (Kind u))

  pub bounds_at_And : (es : List Expr) → bounds_at m (roll-Expr (And es)) t ≡ (if has_arguments es then truth_of (map (λ e. bounds_at m e t) es) else None)
  unfolding bounds_at
  bounds_at_And es = ap (λ (f : ℕ → Option Bounds). f t) (fold-roll-Expr (ℕ → Option Bounds) (layer_bounds m) (And es)) ∙ simp (map-map, length-map)

  pub bounds_at_Or : (es : List Expr) → bounds_at m (roll-Expr (Or es)) t ≡ (if has_arguments es then truth_of (map (λ e. bounds_at m e t) es) else None)
  unfolding bounds_at
  bounds_at_Or es = ap (λ (f : ℕ → Option Bounds). f t) (fold-roll-Expr (ℕ → Option Bounds) (layer_bounds m) (Or es)) ∙ simp (map-map, length-map)

  pub bounds_at_Not : (e : Expr) → bounds_at m (roll-Expr (Not e)) t ≡ truth_of (bounds_at m e t ∷ [])
  unfolding bounds_at
  bounds_at_Not e = ap (λ (f : ℕ → Option Bounds). f t) (fold-roll-Expr (ℕ → Option Bounds) (layer_bounds m) (Not e))

  pub bounds_at_If : (e f : Expr) → bounds_at m (roll-Expr (If e f)) t ≡ truth_of (bounds_at m e t ∷ bounds_at m f t ∷ [])
  unfolding bounds_at
  bounds_at_If e f = ap (λ (f : ℕ → Option Bounds). f t) (fold-roll-Expr (ℕ → Option Bounds) (layer_bounds m) (If e f))

  pub bounds_at_All : (p : ℕ) (e : Expr) → bounds_at m (roll-Expr (All p e)) t ≡ option_and_then (λ q. truth_of (bounds_at m e q.target ∷ [])) (declared_port_of m t p)
  unfolding bounds_at
  bounds_at_All p e = ap (λ (f : ℕ → Option Bounds). f t) (fold-roll-Expr (ℕ → Option Bounds) (layer_bounds m) (All p e))

  pub bounds_at_Any : (p : ℕ) (e : Expr) → bounds_at m (roll-Expr (Any p e)) t ≡ option_and_then (λ q. truth_of (bounds_at m e q.target ∷ [])) (declared_port_of m t p)
  unfolding bounds_at
  bounds_at_Any p e = ap (λ (f : ℕ → Option Bounds). f t) (fold-roll-Expr (ℕ → Option Bounds) (layer_bounds m) (Any p e))

pub nesting_Num : (n : ℤ) → nesting (roll-Expr (Num n)) ≡ 1
unfolding nesting
nesting_Num n = fold-roll-Expr ℕ layer_nesting (Num n)

pub nesting_Attr : (a : ℕ) → nesting (roll-Expr (Attr a)) ≡ 1
unfolding nesting
nesting_Attr a = fold-roll-Expr ℕ layer_nesting (Attr a)

pub nesting_Count : (p : ℕ) → nesting (roll-Expr (Count p)) ≡ 1
unfolding nesting
nesting_Count p = fold-roll-Expr ℕ layer_nesting (Count p)

pub nesting_CountOf : (p u : ℕ) → nesting (roll-Expr (CountOf p u)) ≡ 1
unfolding nesting
nesting_CountOf p u = fold-roll-Expr ℕ layer_nesting (CountOf p u)

pub nesting_Sum : (p a : ℕ) → nesting (roll-Expr (Sum p a)) ≡ 1
unfolding nesting
nesting_Sum p a = fold-roll-Expr ℕ layer_nesting (Sum p a)

pub nesting_Total : (u a : ℕ) → nesting (roll-Expr (Total u a)) ≡ 1
unfolding nesting
nesting_Total u a = fold-roll-Expr ℕ layer_nesting (Total u a)

pub nesting_Number : (u : ℕ) → nesting (roll-Expr (Number u)) ≡ 1
unfolding nesting
nesting_Number u = fold-roll-Expr ℕ layer_nesting (Number u)

pub nesting_Add : (es : List Expr) → nesting (roll-Expr (Add es)) ≡ 1 + fold (λ n e. max n (nesting e)) 0 es
unfolding nesting
nesting_Add es = fold-roll-Expr ℕ layer_nesting (Add es) ∙ simp fold-map

pub nesting_Sub : (e f : Expr) → nesting (roll-Expr (Sub e f)) ≡ 1 + max (nesting e) (nesting f)
unfolding nesting
nesting_Sub e f = fold-roll-Expr ℕ layer_nesting (Sub e f)

pub nesting_Times : (k : ℤ) (e : Expr) → nesting (roll-Expr (Times k e)) ≡ 1 + nesting e
unfolding nesting
nesting_Times k e = fold-roll-Expr ℕ layer_nesting (Times k e)

pub nesting_Cmp : (r : Relation) (e f : Expr) → nesting (roll-Expr (Cmp r e f)) ≡ 1 + max (nesting e) (nesting f)
unfolding nesting
nesting_Cmp r e f = fold-roll-Expr ℕ layer_nesting (Cmp r e f)

pub nesting_Is : (a w : ℕ) → nesting (roll-Expr (Is a w)) ≡ 1
unfolding nesting
nesting_Is a w = fold-roll-Expr ℕ layer_nesting (Is a w)

pub nesting_Kind : (u : ℕ) → nesting (roll-Expr (Kind u)) ≡ 1
unfolding nesting
nesting_Kind u = fold-roll-Expr ℕ layer_nesting (Kind u)

pub nesting_And : (es : List Expr) → nesting (roll-Expr (And es)) ≡ 1 + fold (λ n e. max n (nesting e)) 0 es
unfolding nesting
nesting_And es = fold-roll-Expr ℕ layer_nesting (And es) ∙ simp fold-map

pub nesting_Or : (es : List Expr) → nesting (roll-Expr (Or es)) ≡ 1 + fold (λ n e. max n (nesting e)) 0 es
unfolding nesting
nesting_Or es = fold-roll-Expr ℕ layer_nesting (Or es) ∙ simp fold-map

pub nesting_Not : (e : Expr) → nesting (roll-Expr (Not e)) ≡ 1 + nesting e
unfolding nesting
nesting_Not e = fold-roll-Expr ℕ layer_nesting (Not e)

pub nesting_If : (e f : Expr) → nesting (roll-Expr (If e f)) ≡ 1 + max (nesting e) (nesting f)
unfolding nesting
nesting_If e f = fold-roll-Expr ℕ layer_nesting (If e f)

pub nesting_All : (p : ℕ) (e : Expr) → nesting (roll-Expr (All p e)) ≡ 1 + nesting e
unfolding nesting
nesting_All p e = fold-roll-Expr ℕ layer_nesting (All p e)

pub nesting_Any : (p : ℕ) (e : Expr) → nesting (roll-Expr (Any p e)) ≡ 1 + nesting e
unfolding nesting
nesting_Any p e = fold-roll-Expr ℕ layer_nesting (Any p e)

-- what an expression is at a type, form by form
pub ruleset bounds_laws = (bounds_at_Num, bounds_at_Attr, bounds_at_Count, bounds_at_CountOf, bounds_at_Sum, bounds_at_Total, bounds_at_Number, bounds_at_Add, bounds_at_Sub, bounds_at_Times, bounds_at_Cmp, bounds_at_Is, bounds_at_Kind, bounds_at_And, bounds_at_Or, bounds_at_Not, bounds_at_If, bounds_at_All, bounds_at_Any)

-- how deep it nests, form by form
pub ruleset nesting_laws = (nesting_Num, nesting_Attr, nesting_Count, nesting_CountOf, nesting_Sum, nesting_Total, nesting_Number, nesting_Add, nesting_Sub, nesting_Times, nesting_Cmp, nesting_Is, nesting_Kind, nesting_And, nesting_Or, nesting_Not, nesting_If, nesting_All, nesting_Any)
