-- Expressions don't depend on the rules.
use Rattle.std.proofs.Common.{◌≡◌, ℕ, List, refl, ap}
use mathlib.Core.Path.{fun_ext}
use Rattle.std.specs.Prelude.{Option}
use Rattle.prod_model.specs.declared.model.Model.{Model}
use Rattle.prod_model.specs.declared.model.Rule.{Rule}
use Rattle.prod_model.specs.declared.expr_bounds.Bounds.{Bounds}
use Rattle.prod_model.specs.declared.expr.Expr.TheOpen.{Expr-F, Num, Attr, Count, CountOf, Sum, Total, Number, Add, Sub, Times, Cmp, Is, Kind, And, Or, Not, If, All, Any}
use Rattle.prod_model.specs.declared.expr.Expr.TheFolds.{fold-Expr}
use Rattle.prod_model.specs.ExprBounds.{bounds_at, layer_bounds}
use Rattle.prod_model.specs.Taxonomy.{first_words}
use Rattle.file_meaning.specs.Laws.{BoundsIgnoreRules}

same-layer : (m : Model) (rules : List Rule) (form : Expr-F (ℕ → Option Bounds)) (t : ℕ) → layer_bounds (record m { rules = rules }) form t ≡ layer_bounds m form t
unfolding first_words
same-layer m rules (Num n) t = refl
same-layer m rules (Attr a) t = refl
same-layer m rules (Count p) t = refl
same-layer m rules (CountOf p u) t = refl
same-layer m rules (Sum p a) t = refl
same-layer m rules (Total u a) t = refl
same-layer m rules (Number u) t = refl
same-layer m rules (Add args) t = refl
same-layer m rules (Sub e f) t = refl
same-layer m rules (Times k e) t = refl
same-layer m rules (Cmp r e f) t = refl
same-layer m rules (Is a w) t = refl
same-layer m rules (Kind u) t = refl
same-layer m rules (And args) t = refl
same-layer m rules (Or args) t = refl
same-layer m rules (Not e) t = refl
same-layer m rules (If e f) t = refl
same-layer m rules (All p e) t = refl
same-layer m rules (Any p e) t = refl

pub bounds_ignore_rules : BoundsIgnoreRules
unfolding bounds_at
bounds_ignore_rules m rules e t =
    ap (λ layer. fold-Expr (ℕ → Option Bounds) layer e t) (fun_ext (λ form. fun_ext (λ u. same-layer m rules form u)))
