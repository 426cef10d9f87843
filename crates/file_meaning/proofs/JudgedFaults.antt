-- The first fault of an expression of the forms, from the first one that its bounds tell.
use Rattle.std.proofs.Common.{◌≡◌, ℕ, ◌≤◌, Bool, IsTrue, IsFalse, List, [], refl, sym, ap, subst, ◌∙◌, arith, Some}
use Rattle.std.specs.Prelude.{is_some}
use Rattle.std.proofs.lemmas.Bool.{false≢true}
use Rattle.std.proofs.lemmas.Bool.Decides.{nat_tests}
use Rattle.std.specs.declared.cmp.Ordering.{Ordering}
use Rattle.std.specs.declared.cmp.Ordering.TheVariants.{Equal}
use Rattle.std.specs.Ordering.{nat_cmp, is_lt, ordering_then}
use Rattle.std.specs.Cmp.Lexicographic.{slice_cmp}
use Rattle.prod_model.specs.declared.model.Model.{Model}
use Rattle.prod_model.specs.declared.expr.Expr.{Expr}
use Rattle.prod_model.specs.declared.expr.Expr.TheViews.{out-Expr}
use Rattle.prod_model.specs.declared.expr_bounds.Bounds.{Bounds}
use Rattle.prod_model.specs.First.{IsFirst}
use Rattle.prod_model.specs.Limits.{most_nesting}
use Rattle.prod_model.specs.Nesting.{nesting}
use Rattle.prod_model.specs.ExprBounds.{bounds_at}
use Rattle.expr_bounds.specs.declared.fault.ExprFault.TheVariants as expr
use Rattle.expr_bounds.specs.Faults.{HasExprFault, IsFirstExprFault, is_truth_form, same_truth}
use Rattle.expr_bounds.proofs.Bounded.{bounded_has_no_fault}
use Rattle.file_values.specs.declared.part.Part.{Part}
use Rattle.file_values.specs.declared.fault.Fault.{Fault}
use Rattle.file_values.specs.declared.fault.FaultCode.{FaultCode}
use Rattle.file_values.specs.declared.fault.FaultCode.TheVariants.{Deep, UnknownName, WrongKind, Wide}
use Rattle.file_values.specs.Codes.{number_of}
use Rattle.file_values.specs.FaultOrder.{IsFaultBefore}
use Rattle.file_values.specs.Places.{part_cmp, IsPlaceBefore}
use Rattle.file_values.proofs.PlaceOrder.{not_before-whole}
use Rattle.file_meaning.specs.Faults.{fault, path_place}
use Rattle.file_meaning.specs.declared.refusal.Refusal.{Refusal}
use Rattle.file_meaning.specs.declared.refusal.Refusal.TheVariants as refusal
use Rattle.file_meaning.specs.steps.Judged.{HasFormFault, deep, unknown_name, wrong_whole, wrong_kind, wide, IsRefusalOfForm, IsRefusalFor, IsJudged}
use Rattle.file_meaning.proofs.FirstFaults.{paths_keep_order}
use Rattle.file_meaning.proofs.BoundedExpressions.{bounded_is_needed}

level : (n : ℕ) → nat_cmp n n ≡ Equal
level n = grind (arith, nat_tests)

-- of two faults of one code the place decides
pub same_code_before : (c : FaultCode) (p q : List Part) → IsFaultBefore (fault c p) (fault c q) → IsPlaceBefore p q
same_code_before c p q before = let Before : Ordering → Type 0 = λ o. IsTrue (is_lt (ordering_then o (slice_cmp part_cmp p q))) in subst Before (level (number_of c)) before

path_before : (c : FaultCode) (p q : List ℕ) → IsFaultBefore (fault c (path_place p)) (fault c (path_place q)) → IsTrue (is_lt (slice_cmp nat_cmp p q))
path_before c p q before = ap is_lt (sym (paths_keep_order p q)) ∙ same_code_before c (path_place p) (path_place q) before

-- a fault that is the first, told of what is the same fault
pub told : (y f g : Fault) → y ≡ f → IsFaultBefore y g → IsFaultBefore f g
told y f g is before = subst (λ x. IsFaultBefore x g) is before

module _ (m : Model) (e : Expr) (t : ℕ) (truth : Bool) where
  abbrev Has : Fault → Type 0
  Has = HasFormFault m e t truth

  abbrev IsRight : Type 0
  IsRight = IsTrue (same_truth truth (is_truth_form (out-Expr e)))

  pub deep_first : (path : List ℕ) → IsFirstExprFault m e t (expr.Deep path) → IsFirst Has IsFaultBefore (fault Deep (path_place path))
  deep_first path first = record { is = deep path refl first.is; none_before = none_before }
    where
      none_before : (y : Fault) → Has y → ¬ IsFaultBefore y (fault Deep (path_place path))
      none_before y (deep q is has) before = first.none_before (expr.Deep q) has (path_before Deep q path (told y (fault Deep (path_place q)) (fault Deep (path_place path)) is before))
      none_before y (unknown_name q is has) before = false≢true (told y (fault UnknownName (path_place q)) (fault Deep (path_place path)) is before)
      none_before y (wrong_whole is wrong) before = false≢true (told y (fault WrongKind []) (fault Deep (path_place path)) is before)
      none_before y (wrong_kind q is has) before = false≢true (told y (fault WrongKind (path_place q)) (fault Deep (path_place path)) is before)
      none_before y (wide q is has) before = false≢true (told y (fault Wide (path_place q)) (fault Deep (path_place path)) is before)

  pub unknown_first : (path : List ℕ) → IsFirstExprFault m e t (expr.UnknownName path) → IsFirst Has IsFaultBefore (fault UnknownName (path_place path))
  unknown_first path first = record { is = unknown_name path refl first.is; none_before = none_before }
    where
      none_before : (y : Fault) → Has y → ¬ IsFaultBefore y (fault UnknownName (path_place path))
      none_before y (deep q is has) before = first.none_before (expr.Deep q) has refl
      none_before y (unknown_name q is has) before = first.none_before (expr.UnknownName q) has (path_before UnknownName q path (told y (fault UnknownName (path_place q)) (fault UnknownName (path_place path)) is before))
      none_before y (wrong_whole is wrong) before = false≢true (told y (fault WrongKind []) (fault UnknownName (path_place path)) is before)
      none_before y (wrong_kind q is has) before = false≢true (told y (fault WrongKind (path_place q)) (fault UnknownName (path_place path)) is before)
      none_before y (wide q is has) before = false≢true (told y (fault Wide (path_place q)) (fault UnknownName (path_place path)) is before)

  pub kind_first : (path : List ℕ) → IsFirstExprFault m e t (expr.WrongKind path) → IsRight → IsFirst Has IsFaultBefore (fault WrongKind (path_place path))
  kind_first path first right = record { is = wrong_kind path refl first.is; none_before = none_before }
    where
      none_before : (y : Fault) → Has y → ¬ IsFaultBefore y (fault WrongKind (path_place path))
      none_before y (deep q is has) before = first.none_before (expr.Deep q) has refl
      none_before y (unknown_name q is has) before = first.none_before (expr.UnknownName q) has refl
      none_before y (wrong_whole is wrong) before = false≢true (sym wrong ∙ right)
      none_before y (wrong_kind q is has) before = first.none_before (expr.WrongKind q) has (path_before WrongKind q path (told y (fault WrongKind (path_place q)) (fault WrongKind (path_place path)) is before))
      none_before y (wide q is has) before = false≢true (told y (fault Wide (path_place q)) (fault WrongKind (path_place path)) is before)

  pub wide_first : (path : List ℕ) → IsFirstExprFault m e t (expr.Wide path) → IsRight → IsFirst Has IsFaultBefore (fault Wide (path_place path))
  wide_first path first right = record { is = wide path refl first.is; none_before = none_before }
    where
      none_before : (y : Fault) → Has y → ¬ IsFaultBefore y (fault Wide (path_place path))
      none_before y (deep q is has) before = first.none_before (expr.Deep q) has refl
      none_before y (unknown_name q is has) before = first.none_before (expr.UnknownName q) has refl
      none_before y (wrong_whole is wrong) before = false≢true (sym wrong ∙ right)
      none_before y (wrong_kind q is has) before = first.none_before (expr.WrongKind q) has refl
      none_before y (wide q is has) before = first.none_before (expr.Wide q) has (path_before Wide q path (told y (fault Wide (path_place q)) (fault Wide (path_place path)) is before))

  -- the whole is of the wrong kind, and no part is too deep or has an unknown name
  whole_first : ((q : List ℕ) → ¬ HasExprFault m e t (expr.Deep q)) → ((q : List ℕ) → ¬ HasExprFault m e t (expr.UnknownName q))
      → IsFalse (same_truth truth (is_truth_form (out-Expr e))) → IsFirst Has IsFaultBefore (fault WrongKind [])
  whole_first shallow known wrong = record { is = wrong_whole refl wrong; none_before = none_before }
    where
      none_before : (y : Fault) → Has y → ¬ IsFaultBefore y (fault WrongKind [])
      none_before y (deep q is has) before = shallow q has
      none_before y (unknown_name q is has) before = known q has
      none_before y (wrong_whole is w) before = not_before-whole [] (same_code_before WrongKind [] [] (told y (fault WrongKind []) (fault WrongKind []) is before))
      none_before y (wrong_kind q is has) before = not_before-whole (path_place q) (same_code_before WrongKind (path_place q) [] (told y (fault WrongKind (path_place q)) (fault WrongKind []) is before))
      none_before y (wide q is has) before = false≢true (told y (fault Wide (path_place q)) (fault WrongKind []) is before)

  pub whole_of_kind : (path : List ℕ) → IsFirstExprFault m e t (expr.WrongKind path) → IsFalse (same_truth truth (is_truth_form (out-Expr e))) → IsFirst Has IsFaultBefore (fault WrongKind [])
  whole_of_kind path first wrong = whole_first (λ q has. first.none_before (expr.Deep q) has refl) (λ q has. first.none_before (expr.UnknownName q) has refl) wrong

  pub whole_of_wide : (path : List ℕ) → IsFirstExprFault m e t (expr.Wide path) → IsFalse (same_truth truth (is_truth_form (out-Expr e))) → IsFirst Has IsFaultBefore (fault WrongKind [])
  whole_of_wide path first wrong = whole_first (λ q has. first.none_before (expr.Deep q) has refl) (λ q has. first.none_before (expr.UnknownName q) has refl) wrong

  pub whole_of_bounded : (b : Bounds) → bounds_at m e t ≡ Some b → nesting e ≤ most_nesting → IsFalse (same_truth truth (is_truth_form (out-Expr e))) → IsFirst Has IsFaultBefore (fault WrongKind [])
  whole_of_bounded b is few wrong =
      let none = bounded_has_no_fault m e t (ap is_some is) few in whole_first (λ q. none (expr.Deep q)) (λ q. none (expr.UnknownName q)) wrong

  pub judged_right : (b : Bounds) → bounds_at m e t ≡ Some b → nesting e ≤ most_nesting → IsRight → IsJudged m e t truth
  judged_right b is few right = bounded_is_needed m t truth e (ap is_some is) few right

  -- a refusal for the first fault
  pub refusal_of : (c : FaultCode) (p : List Part) (r : Refusal) → IsRefusalFor c p r → IsFirst Has IsFaultBefore (fault c p) → IsRefusalOfForm m e t truth r
  refusal_of c p (refusal.Fault f) is first = subst (IsFirst Has IsFaultBefore) (sym is) first
  refusal_of c p (refusal.Memory a) is first = tt
