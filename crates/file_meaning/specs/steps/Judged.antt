-- The faults of an expression that has a form, as faults of a file.
use Rattle.std.specs.Prelude.{◌≡◌, ℕ, Bool, IsTrue, IsFalse, List, [], if◌then◌else◌}
use Rattle.prod_model.specs.declared.model.Model.{Model}
use Rattle.prod_model.specs.declared.expr.Expr.{Expr}
use Rattle.prod_model.specs.declared.expr.Expr.TheViews.{out-Expr}
use Rattle.prod_model.specs.ExprBounds.{is_truth_at, is_number_at}
use Rattle.prod_model.specs.First.{IsFirst}
use Rattle.expr_bounds.specs.declared.fault.ExprFault.TheVariants as expr
use Rattle.expr_bounds.specs.Faults.{HasExprFault, is_truth_form, same_truth}
use Rattle.file_values.specs.declared.part.Part.{Part}
use Rattle.file_values.specs.declared.fault.Fault.{Fault as AFault}
use Rattle.file_values.specs.declared.fault.FaultCode.{FaultCode}
use Rattle.file_values.specs.declared.fault.FaultCode.TheVariants.{Deep, UnknownName, WrongKind, Wide}
use Rattle.file_values.specs.FaultOrder.{IsFaultBefore}
use Rattle.file_meaning.specs.declared.refusal.Refusal.{Refusal}
use Rattle.file_meaning.specs.declared.refusal.Refusal.TheVariants.{Fault, Memory}
use Rattle.file_meaning.specs.Faults.{fault, path_place}

-- the fault of an expression of the forms, with places from itself
pub data HasFormFault (m : Model) (e : Expr) (of : ℕ) (truth : Bool) (f : AFault) : Type 0 where
  deep : (path : List ℕ) → f ≡ fault Deep (path_place path)
      → HasExprFault m e of (expr.Deep path) → HasFormFault m e of truth f
  unknown_name : (path : List ℕ) → f ≡ fault UnknownName (path_place path)
      → HasExprFault m e of (expr.UnknownName path) → HasFormFault m e of truth f
  wrong_whole : f ≡ fault WrongKind [] → IsFalse (same_truth truth (is_truth_form (out-Expr e)))
      → HasFormFault m e of truth f
  wrong_kind : (path : List ℕ) → f ≡ fault WrongKind (path_place path)
      → HasExprFault m e of (expr.WrongKind path) → HasFormFault m e of truth f
  wide : (path : List ℕ) → f ≡ fault Wide (path_place path)
      → HasExprFault m e of (expr.Wide path) → HasFormFault m e of truth f

-- the refusal of an expression of the forms
abbrev pub IsRefusalOfForm : Model → Expr → ℕ → Bool → Refusal → Type 0
IsRefusalOfForm m e of truth (Fault f) = IsFirst (HasFormFault m e of truth) IsFaultBefore f
IsRefusalOfForm m e of truth (Memory e') = Unit {0}

-- the refusal is for this fault, or for want of memory
abbrev pub IsRefusalFor : FaultCode → List Part → Refusal → Type 0
IsRefusalFor code place (Fault f) = f ≡ fault code place
IsRefusalFor code place (Memory e) = Unit {0}

-- a truth or a number without fault, as is needed
abbrev pub IsJudged : Model → Expr → ℕ → Bool → Type 0
IsJudged m e of truth = IsTrue (if truth then is_truth_at m of e else is_number_at m of e)
