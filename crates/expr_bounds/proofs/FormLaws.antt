-- The arguments of a form of the language: there are few, and each is a form of the language.
use Rattle.std.proofs.Common.{◌≡◌, ℕ, ◌≤◌, ◌∙◌, sym, ap, refl, Bool, true, ◌&&◌, List, [], ◌∷◌, map, length, IsTrue, arith}
use Rattle.std.specs.List.{list_all}
use Rattle.std.proofs.lemmas.List.{length-map}
use Rattle.std.proofs.lemmas.List.Folds.{list_all-map}
use Rattle.std.proofs.lemmas.Bool.Decides.{nat_tests}
use Rattle.base_laws.specs.Places.{IsAt}
use Rattle.prod_model.specs.declared.expr.Expr.{Expr}
use Rattle.prod_model.specs.declared.expr.Expr.TheOpen.{Expr-F, Add, Sub, Times, Cmp, And, Or, Not, If, All, Any}
use Rattle.prod_model.specs.declared.expr.Expr.TheViews.{out-Expr, roll-Expr, roll-out-Expr}
use Rattle.prod_model.specs.declared.expr.Expr.TheFolds.{fold-roll-Expr}
use Rattle.prod_model.specs.ExprBounds.{has_arguments}
use Rattle.base_laws.proofs.Tests.{list_all_at}
use Rattle.expr_bounds.specs.steps.Arguments.{argument_list}
use Rattle.expr_bounds.specs.Forms.{is_form, layer_is_form}

-- there are at most 64 arguments, and each is of the language
abbrev HasFormedArguments : List Expr → Type 0
HasFormedArguments es = (length es ≤ 64) × (list_all is_form es ≡ true)

pub all_map : (es : List Expr) → list_all (λ b. b) (map is_form es) ≡ list_all is_form es
all_map es = list_all-map (λ b. b) is_form es

formed_none : HasFormedArguments []
formed_none = (omega arith, refl)

formed_one : (e : Expr) → is_form e ≡ true → HasFormedArguments (e ∷ [])
formed_one e formed = (omega arith, grind (arith))

formed_two : (e f : Expr) → (is_form e && is_form f) ≡ true → HasFormedArguments (e ∷ f ∷ [])
formed_two e f formed = (omega arith, grind (arith))

formed_list : (es : List Expr) → (has_arguments (map is_form es) && list_all (λ b. b) (map is_form es)) ≡ true → HasFormedArguments es
formed_list es formed = let all = all_map es in let count : length (map is_form es) ≡ length es = simp length-map in (grind (arith, nat_tests), grind (arith))

formed_roll : (f : Expr-F Expr) → is_form (roll-Expr f) ≡ true → HasFormedArguments (argument_list f)
unfolding is_form
formed_roll (Add args) formed = formed_list args (sym (fold-roll-Expr Bool layer_is_form (Add args)) ∙ formed)
formed_roll (Sub e f) formed = formed_two e f (sym (fold-roll-Expr Bool layer_is_form (Sub e f)) ∙ formed)
formed_roll (Times k e) formed = formed_one e (sym (fold-roll-Expr Bool layer_is_form (Times k e)) ∙ formed)
formed_roll (Cmp r e f) formed = formed_two e f (sym (fold-roll-Expr Bool layer_is_form (Cmp r e f)) ∙ formed)
formed_roll (And args) formed = formed_list args (sym (fold-roll-Expr Bool layer_is_form (And args)) ∙ formed)
formed_roll (Or args) formed = formed_list args (sym (fold-roll-Expr Bool layer_is_form (Or args)) ∙ formed)
formed_roll (Not e) formed = formed_one e (sym (fold-roll-Expr Bool layer_is_form (Not e)) ∙ formed)
formed_roll (If e f) formed = formed_two e f (sym (fold-roll-Expr Bool layer_is_form (If e f)) ∙ formed)
formed_roll (All p e) formed = formed_one e (sym (fold-roll-Expr Bool layer_is_form (All p e)) ∙ formed)
formed_roll (Any p e) formed = formed_one e (sym (fold-roll-Expr Bool layer_is_form (Any p e)) ∙ formed)
formed_roll form formed = formed_none

formed_arguments : (e : Expr) → IsTrue (is_form e) → HasFormedArguments (argument_list (out-Expr e))
formed_arguments e formed = formed_roll (out-Expr e) (ap is_form (roll-out-Expr e) ∙ formed)

pub few_arguments : (e : Expr) → IsTrue (is_form e) → length (argument_list (out-Expr e)) ≤ 64
few_arguments e formed = (formed_arguments e formed).0

pub formed_argument : (e : Expr) (i : ℕ) (arg : Expr) → IsTrue (is_form e) → IsAt (argument_list (out-Expr e)) i arg → IsTrue (is_form arg)
formed_argument e i arg formed found = list_all_at is_form (argument_list (out-Expr e)) (formed_arguments e formed).1 i arg found
