-- Expressions without faults of their own have bounds of the kind that is needed.
use Rattle.std.proofs.Common.{◌≡◌, ℕ, ◌≤◌, Bool, true, false, IsTrue, List, [], ◌∷◌, refl, sym, ap, subst, ◌∙◌, Option, Some, None, arith, Contains}
use Rattle.std.specs.Prelude.{is_some, nat_le, if◌then◌else◌}
use Rattle.std.proofs.lemmas.Bool.{false≢true, and_from, and_parts}
use Rattle.std.proofs.lemmas.Bool.Decides.{nat_tests}
use Rattle.serde_json.specs.Data.{Data}
use Rattle.base_laws.proofs.Elements.{contained_at, none_contained}
use Rattle.prod_model.specs.declared.model.Model.{Model}
use Rattle.prod_model.specs.declared.expr.Expr.{Expr}
use Rattle.prod_model.specs.declared.expr.Expr.TheViews.{out-Expr}
use Rattle.prod_model.specs.declared.expr_bounds.Bounds.{Bounds}
use Rattle.prod_model.specs.declared.expr_bounds.Bounds.TheVariants.{Number as number, Truth as truth}
use Rattle.prod_model.specs.Limits.{most_nesting}
use Rattle.prod_model.specs.Nesting.{nesting}
use Rattle.prod_model.specs.ExprBounds.{bounds_at, is_truth, is_number, is_truth_at, is_number_at}
use Rattle.expr_bounds.specs.declared.fault.ExprFault.{ExprFault}
use Rattle.expr_bounds.specs.Faults.{HasExprFault, deep, unknown_name, wrong_argument, wrong_attribute, wide, is_truth_form, same_truth}
use Rattle.expr_bounds.proofs.FaultlessBounded.{faultless_is_bounded as bounded_law}
use Rattle.expr_bounds.proofs.Bounded.{bounded_has_no_fault}
use Rattle.expr_bounds.proofs.BoundsLaws.{bounds_at_form}
use Rattle.expr_bounds.proofs.FormSound.{kind_of, sound_at}
use Rattle.file_values.specs.declared.part.Part.{Part}
use Rattle.file_values.specs.declared.fault.Fault.{Fault}
use Rattle.file_values.specs.declared.fault.FaultCode.TheVariants.{Misformed, Deep, UnknownName, WrongKind, Wide}
use Rattle.file_values.specs.Forms.{misformed}
use Rattle.file_meaning.specs.Expressions.{expression_of}
use Rattle.file_meaning.specs.Faults.{fault, HasOwnFault}
use Rattle.file_meaning.specs.Faults as faults
use Rattle.file_meaning.specs.Laws.{FaultlessIsBounded}
use Rattle.file_meaning.proofs.NoneFails.{by_test}
use Rattle.file_meaning.proofs.FormedExpressions.{formed_is_form}

-- ---- kinds of bounds

-- bounds of the kind that is needed
abbrev pub IsNeeded : Bool → Option Bounds → Type 0
IsNeeded needed o = IsTrue (if needed then is_truth o else is_number o)

kind_is_needed : (needed form : Bool) (o : Option Bounds) → kind_of o ≡ Some form → IsTrue (same_truth needed form) → IsNeeded needed o
kind_is_needed true true (Some truth) kind same = refl
kind_is_needed true true (Some (number low high)) kind same = absurd (cc)
kind_is_needed true true None kind same = absurd (cc)
kind_is_needed true false o kind same = absurd (false≢true same)
kind_is_needed false true o kind same = absurd (false≢true same)
kind_is_needed false false (Some (number low high)) kind same = refl
kind_is_needed false false (Some truth) kind same = absurd (cc)
kind_is_needed false false None kind same = absurd (cc)

needed_is_kind : (needed form : Bool) (o : Option Bounds) → kind_of o ≡ Some form → IsNeeded needed o → IsTrue (same_truth needed form)
needed_is_kind true true o kind need = refl
needed_is_kind true false (Some truth) kind need = absurd (cc)
needed_is_kind true false (Some (number low high)) kind need = absurd (false≢true need)
needed_is_kind true false None kind need = absurd (false≢true need)
needed_is_kind false true (Some truth) kind need = absurd (false≢true need)
needed_is_kind false true (Some (number low high)) kind need = absurd (cc)
needed_is_kind false true None kind need = absurd (false≢true need)
needed_is_kind false false o kind need = refl

needed_some : (needed : Bool) (o : Option Bounds) → IsNeeded needed o → IsTrue (is_some o)
needed_some needed (Some b) need = refl
needed_some true None need = absurd (false≢true need)
needed_some false None need = absurd (false≢true need)

-- what an expression with bounds is, its form tells
kind_at : (m : Model) (e : Expr) (t : ℕ) → IsTrue (is_some (bounds_at m e t)) → kind_of (bounds_at m e t) ≡ Some (is_truth_form (out-Expr e))
kind_at m e t is = ap kind_of (bounds_at_form m e t) ∙ (sound_at m e t is).kind

-- a truth or a number without fault
abbrev pub IsNeededAt : Bool → Model → ℕ → Expr → Type 0
IsNeededAt needed m t e = IsTrue (if needed then is_truth_at m t e else is_number_at m t e)

needed_at : (needed : Bool) (m : Model) (t : ℕ) (e : Expr) → nesting e ≤ most_nesting → IsNeeded needed (bounds_at m e t) → IsNeededAt needed m t e
needed_at true m t e few need = and_from _ _ (grind (arith, nat_tests)) need
needed_at false m t e few need = and_from _ _ (grind (arith, nat_tests)) need

at_needed : (needed : Bool) (m : Model) (t : ℕ) (e : Expr) → IsNeededAt needed m t e → (nesting e ≤ most_nesting) × IsNeeded needed (bounds_at m e t)
at_needed true m t e need = let parts = and_parts (nat_le (nesting e) most_nesting) (is_truth (bounds_at m e t)) need in (grind (arith, nat_tests), parts.1)
at_needed false m t e need = let parts = and_parts (nat_le (nesting e) most_nesting) (is_number (bounds_at m e t)) need in (grind (arith, nat_tests), parts.1)

-- bounds, and a form of the kind that is needed
pub bounded_is_needed : (m : Model) (t : ℕ) (needed : Bool) (e : Expr) → IsTrue (is_some (bounds_at m e t)) → nesting e ≤ most_nesting → IsTrue (same_truth needed (is_truth_form (out-Expr e)))
    → IsNeededAt needed m t e
bounded_is_needed m t needed e is few right = needed_at needed m t e few (kind_is_needed needed (is_truth_form (out-Expr e)) (bounds_at m e t) (kind_at m e t is) right)

-- ---- no fault

nothing_contained : (ps : List (List Part)) → ((p : List Part) → ¬ Contains ps p) → ps ≡ []
nothing_contained [] none = refl
nothing_contained (p ∷ ps) none = absurd (none p (contained_at (p ∷ ps) 0 p refl))

module _ (m : Model) (d : Data) (t : ℕ) (needed : Bool) where
  abbrev e : Expr
  e = expression_of m d (Some t)

  module _ (none : (f : Fault) → ¬ HasOwnFault m d t needed f) where
    pub no_misformed : misformed d ≡ []
    no_misformed = nothing_contained (misformed d) (λ p among. none (fault Misformed p) (faults.of_no_form p refl among))

    no_expr_fault : (f : ExprFault) → ¬ HasExprFault m e t f
    no_expr_fault f (deep path part of is far same) = none (fault Deep _) (faults.deep path refl (subst (HasExprFault m e t) same (deep path part of is far same)))
    no_expr_fault f (unknown_name path part of is k among same) = none (fault UnknownName _) (faults.unknown_name _ refl (subst (HasExprFault m e t) same (unknown_name path part of is k among same)))
    no_expr_fault f (wrong_argument path part of is k among same) = none (fault WrongKind _) (faults.wrong_kind _ refl (subst (HasExprFault m e t) same (wrong_argument path part of is k among same)))
    no_expr_fault f (wrong_attribute path part of is k among same) = none (fault WrongKind _) (faults.wrong_kind _ refl (subst (HasExprFault m e t) same (wrong_attribute path part of is k among same)))
    no_expr_fault f (wide path part of is far same) = none (fault Wide _) (faults.wide path refl (subst (HasExprFault m e t) same (wide path part of is far same)))

    right_whole : IsTrue (same_truth needed (is_truth_form (out-Expr e)))
    right_whole = by_test (same_truth needed (is_truth_form (out-Expr e))) (λ is. is) (λ wrong. absurd (none (fault WrongKind []) (faults.wrong_whole refl wrong)))

    pub bounded_of_none : IsNeededAt needed m t e
    bounded_of_none =
        let both = bounded_law m e t (formed_is_form m d (Some t) no_misformed) no_expr_fault in
        needed_at needed m t e both.1 (kind_is_needed needed (is_truth_form (out-Expr e)) (bounds_at m e t) (kind_at m e t both.0) right_whole)

  -- back: what has bounds of the kind that is needed has no fault
  module _ (right : misformed d ≡ []) (need : IsNeededAt needed m t e) where
    none_of_own : (f : ExprFault) → ¬ HasExprFault m e t f
    none_of_own =
        let parts = at_needed needed m t e need in bounded_has_no_fault m e t (needed_some needed (bounds_at m e t) parts.1) parts.0

    pub no_own_fault : (f : Fault) → ¬ HasOwnFault m d t needed f
    no_own_fault f (faults.of_no_form place is among) = none_contained place (subst (λ ps. Contains ps place) right among)
    no_own_fault f (faults.deep path is has) = none_of_own _ has
    no_own_fault f (faults.unknown_name path is has) = none_of_own _ has
    no_own_fault f (faults.wrong_kind path is has) = none_of_own _ has
    no_own_fault f (faults.wide path is has) = none_of_own _ has
    no_own_fault f (faults.wrong_whole is wrong) =
        let parts = at_needed needed m t e need in
        let same = needed_is_kind needed (is_truth_form (out-Expr e)) (bounds_at m e t) (kind_at m e t (needed_some needed (bounds_at m e t) parts.1)) parts.1 in
        false≢true (sym wrong ∙ same)

pub faultless_is_bounded : FaultlessIsBounded
faultless_is_bounded m d t needed none = bounded_of_none m d t needed none
