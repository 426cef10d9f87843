-- What an expression is at a type is what its form is there.
use Rattle.std.proofs.Common.{◌≡◌, ℕ, ◌+◌, ◌<◌, ◌∙◌, sym, ap, refl, suc, List, [], ◌∷◌, map, drop, length, get_or, Option, Some, None, add-one, drop-cons, ℤ, pos, unwrap_or}
use Rattle.prod_model.specs.declared.model.Model.{Model}
use Rattle.prod_model.specs.declared.expr_bounds.Bounds.{Bounds}
use Rattle.prod_model.specs.declared.expr.Expr.{Expr}
use Rattle.prod_model.specs.declared.expr.Expr.TheOpen.{Expr-F, Num, Attr, Count, CountOf, Sum, Total, Number, Add, Sub, Times, Cmp, Is, Kind, And, Or, Not, If, All, Any}
use Rattle.prod_model.specs.declared.expr.Expr.TheViews.{out-Expr, roll-Expr, roll-out-Expr}
use Rattle.prod_model.specs.declared.expr_bounds.Bounds.TheVariants.{Number as number, Truth as truth}
use Rattle.prod_model.specs.ExprBounds.{bounds_at, truth_of}
use Rattle.prod_model.specs.steps.ExprBounds.{sum_onto}
use Rattle.expr_bounds.specs.steps.PlusArgument.{sum_with}
use Rattle.prod_model.proofs.ExprBoundsLaws.{bounds_at_Num, bounds_at_Attr, bounds_at_Count, bounds_at_CountOf, bounds_at_Sum, bounds_at_Total, bounds_at_Number, bounds_at_Add_onto, bounds_at_Sub, bounds_at_Times, bounds_at_Cmp, bounds_at_Is, bounds_at_Kind, bounds_at_And, bounds_at_Or, bounds_at_Not, bounds_at_If, bounds_at_All, bounds_at_Any}
use Rattle.expr_bounds.specs.steps.FormBounds.{form_bounds}

bounds_at_roll : (m : Model) (form : Expr-F Expr) (t : ℕ) → bounds_at m (roll-Expr form) t ≡ form_bounds m form t
bounds_at_roll m (Num n) t = bounds_at_Num m t n
bounds_at_roll m (Attr a) t = bounds_at_Attr m t a
bounds_at_roll m (Count p) t = bounds_at_Count m t p
bounds_at_roll m (CountOf p u) t = bounds_at_CountOf m t p u
bounds_at_roll m (Sum p a) t = bounds_at_Sum m t p a
bounds_at_roll m (Total u a) t = bounds_at_Total m t u a
bounds_at_roll m (Number u) t = bounds_at_Number m t u
bounds_at_roll m (Add args) t = bounds_at_Add_onto m t args
bounds_at_roll m (Sub e f) t = bounds_at_Sub m t e f
bounds_at_roll m (Times k e) t = bounds_at_Times m t k e
bounds_at_roll m (Cmp r e f) t = bounds_at_Cmp m t r e f
bounds_at_roll m (Is a w) t = bounds_at_Is m t a w
bounds_at_roll m (Kind u) t = bounds_at_Kind m t u
bounds_at_roll m (And args) t = bounds_at_And m t args
bounds_at_roll m (Or args) t = bounds_at_Or m t args
bounds_at_roll m (Not e) t = bounds_at_Not m t e
bounds_at_roll m (If e f) t = bounds_at_If m t e f
bounds_at_roll m (All p e) t = bounds_at_All m t p e
bounds_at_roll m (Any p e) t = bounds_at_Any m t p e

pub bounds_at_form : (m : Model) (e : Expr) (t : ℕ) → bounds_at m e t ≡ form_bounds m (out-Expr e) t
bounds_at_form m e t = ap (λ x. bounds_at m x t) (sym (roll-out-Expr e)) ∙ bounds_at_roll m (out-Expr e) t

pub ruleset form_laws = (bounds_at_form)

-- ---- the first argument of a list

truth_first : (b : Bounds) (r : Option Bounds) (rest : List (Option Bounds)) → truth_of (r ∷ []) ≡ Some b → truth_of rest ≡ truth_of (r ∷ rest)
truth_first b None rest is = cc
truth_first b (Some truth) rest is = refl
truth_first b (Some (number low high)) rest is = cc

truth_none : (r : Option Bounds) (rest : List (Option Bounds)) → truth_of (r ∷ []) ≡ None → None ≡ truth_of (r ∷ rest)
truth_none None rest none = refl
truth_none (Some truth) rest none = cc
truth_none (Some (number low high)) rest none = refl

sum_first : (low high low' high' : ℤ) (r : Option Bounds) (rest : List (Option Bounds)) → sum_with low high r ≡ Some (low', high') → sum_onto low' high' rest ≡ sum_onto low high (r ∷ rest)
sum_first low high low' high' None rest is = cc
sum_first low high low' high' (Some truth) rest is = cc
sum_first low high low' high' (Some (number a b)) rest is =
    let ends = ap (λ o. unwrap_or o (pos 0, pos 0)) is in ap (λ (s : ℤ × ℤ). sum_onto s.0 s.1 rest) (sym ends)

sum_none : (low high : ℤ) (r : Option Bounds) (rest : List (Option Bounds)) → sum_with low high r ≡ None → None ≡ sum_onto low high (r ∷ rest)
sum_none low high None rest none = refl
sum_none low high (Some truth) rest none = refl
sum_none low high (Some (number a b)) rest none = cc

-- ---- turns of a loop over arguments, x being the one at i and r what it is at the type

module _ (m : Model) (t : ℕ) (args : List Expr) (i : ℕ) (x : Expr) (r : Option Bounds) where
  abbrev each : List Expr → List (Option Bounds)
  each es = map (λ e. bounds_at m e t) es

  each_drop : i < length args → x ≡ get_or args i x → r ≡ form_bounds m (out-Expr x) t → each (drop i args) ≡ r ∷ each (drop (i + 1) args)
  each_drop within read is =
      ap each (drop-cons args i x within)
      ∙ ap (λ e. bounds_at m e t ∷ each (drop (suc i) args)) (sym read)
      ∙ ap (λ b. b ∷ each (drop (suc i) args)) (bounds_at_form m x t ∙ sym is)
      ∙ ap (λ k. r ∷ each (drop k args)) (sym (add-one i))

  pub truths_turn : (b : Bounds) (all : Option Bounds) → i < length args → x ≡ get_or args i x → r ≡ form_bounds m (out-Expr x) t → truth_of (r ∷ []) ≡ Some b
      → truth_of (each (drop i args)) ≡ all → truth_of (each (drop (i + 1) args)) ≡ all
  truths_turn b all within read is true rest = truth_first b r (each (drop (i + 1) args)) true ∙ ap truth_of (sym (each_drop within read is)) ∙ rest

  pub truths_stop : (all : Option Bounds) → i < length args → x ≡ get_or args i x → r ≡ form_bounds m (out-Expr x) t → truth_of (r ∷ []) ≡ None
      → truth_of (each (drop i args)) ≡ all → None ≡ all
  truths_stop all within read is none rest = truth_none r (each (drop (i + 1) args)) none ∙ ap truth_of (sym (each_drop within read is)) ∙ rest

  pub sums_turn : (low high low' high' : ℤ) (all : Option Bounds) → i < length args → x ≡ get_or args i x → r ≡ form_bounds m (out-Expr x) t → sum_with low high r ≡ Some (low', high')
      → sum_onto low high (each (drop i args)) ≡ all → sum_onto low' high' (each (drop (i + 1) args)) ≡ all
  sums_turn low high low' high' all within read is more rest =
      sum_first low high low' high' r (each (drop (i + 1) args)) more ∙ ap (sum_onto low high) (sym (each_drop within read is)) ∙ rest

  pub sums_stop : (low high : ℤ) (all : Option Bounds) → i < length args → x ≡ get_or args i x → r ≡ form_bounds m (out-Expr x) t → sum_with low high r ≡ None
      → sum_onto low high (each (drop i args)) ≡ all → None ≡ all
  sums_stop low high all within read is none rest =
      sum_none low high r (each (drop (i + 1) args)) none ∙ ap (sum_onto low high) (sym (each_drop within read is)) ∙ rest
