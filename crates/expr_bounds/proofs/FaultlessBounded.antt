-- An expression of the language that has no fault has bounds and doesn't nest too deep.
use Rattle.std.proofs.Common.{ℕ, ◌≤◌, List, IsTrue}
use Rattle.std.specs.Prelude.{is_some}
use Rattle.prod_model.specs.declared.model.Model.{Model}
use Rattle.prod_model.specs.declared.expr.Expr.{Expr}
use Rattle.prod_model.specs.Limits.{most_nesting}
use Rattle.prod_model.specs.Nesting.{nesting}
use Rattle.prod_model.specs.ExprBounds.{bounds_at}
use Rattle.expr_bounds.specs.Forms.{is_form}
use Rattle.expr_bounds.specs.Faults.{HasExprFault}
use Rattle.expr_bounds.specs.Laws.{FaultlessIsBounded}
use Rattle.expr_bounds.specs.steps.Search.{whole_at, HasFaultAt, fault_of}
use Rattle.expr_bounds.specs.declared.fault.ExprFault.{ExprFault}
use Rattle.expr_bounds.specs.declared.fault_kind.FaultKind.{FaultKind}
use Rattle.expr_bounds.specs.declared.fault_kind.FaultKind.TheVariants.{Deep, UnknownName, WrongKind, Wide}
use Rattle.expr_bounds.proofs.Faultless.{nesting_faultless, bounded_faultless}
use Rattle.expr_bounds.proofs.FaultsFound.{OnlyWideUnbounded, fault_of_whole}
use Rattle.expr_bounds.proofs.WideParts.{only_wide_unbounded}

module _ (m : Model) (e : Expr) (t : ℕ) (formed : IsTrue (is_form e)) (faultless : (f : ExprFault) → ¬ HasExprFault m e t f) where
  none_of : (k : FaultKind) → OnlyWideUnbounded m e t k → (path : List ℕ) → ¬ HasFaultAt m k e (whole_at t) path
  none_of k wide path has = faultless (fault_of k path) (fault_of_whole m e t k wide path has)

  no_name : (path : List ℕ) → ¬ HasFaultAt m UnknownName e (whole_at t) path
  no_name = none_of UnknownName (λ same. absurd cc)

  no_kind : (path : List ℕ) → ¬ HasFaultAt m WrongKind e (whole_at t) path
  no_kind = none_of WrongKind (λ same. absurd cc)

  no_wide : (path : List ℕ) → ¬ HasFaultAt m Wide e (whole_at t) path
  no_wide = none_of Wide (λ same. only_wide_unbounded m e t formed no_name no_kind)

  bounded : IsTrue (is_some (bounds_at m e t))
  bounded = bounded_faultless m e t no_name no_wide

  shallow : nesting e ≤ most_nesting
  shallow = nesting_faultless m e t (none_of Deep (λ same. absurd cc))

pub faultless_is_bounded : FaultlessIsBounded
faultless_is_bounded m e t formed faultless = (bounded m e t formed faultless, shallow m e t formed faultless)
