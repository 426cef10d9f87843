-- The laws of bounds and faults.
use Rattle.std.specs.Prelude.{ℕ, ◌≤◌, IsTrue, is_some}
use Rattle.prod_model.specs.declared.model.Model.{Model}
use Rattle.prod_model.specs.declared.expr.Expr.{Expr}
use Rattle.prod_model.specs.Limits.{most_nesting}
use Rattle.prod_model.specs.Nesting.{nesting}
use Rattle.prod_model.specs.ExprBounds.{bounds_at}
use Rattle.expr_bounds.specs.declared.fault.ExprFault.{ExprFault}
use Rattle.expr_bounds.specs.Forms.{is_form}
use Rattle.expr_bounds.specs.Faults.{HasExprFault}

-- An expression that has bounds at a type and nests at most 16 deep has no fault there.
abbrev pub BoundedHasNoFault : Type 0
BoundedHasNoFault =
    (m : Model) (e : Expr) (t : ℕ) → IsTrue (is_some (bounds_at m e t)) → nesting e ≤ most_nesting
    → (f : ExprFault) → ¬ HasExprFault m e t f

-- An expression of the language that has no fault at a type has bounds there, and nests at most 16
-- deep.
abbrev pub FaultlessIsBounded : Type 0
FaultlessIsBounded =
    (m : Model) (e : Expr) (t : ℕ) → IsTrue (is_form e) → ((f : ExprFault) → ¬ HasExprFault m e t f)
    → IsTrue (is_some (bounds_at m e t)) × (nesting e ≤ most_nesting)
