-- Expressions that have a value at an instance of a shaped configuration.
use Rattle.std.specs.Prelude.{◌≡◌, ℕ, ◌≤◌, IsTrue, List, slice_get, Some}
use Rattle.prod_model.specs.declared.model.Model.{Model}
use Rattle.prod_model.specs.declared.expr.Expr.{Expr}
use Rattle.prod_model.specs.declared.expr_bounds.Bounds.{Bounds}
use Rattle.prod_model.specs.Forest.{is_a}
use Rattle.prod_model.specs.Limits.{most_nesting}
use Rattle.prod_model.specs.Nesting.{nesting}
use Rattle.prod_model.specs.ExprBounds.{bounds_at}
use Rattle.config_value.specs.declared.configuration.Instance.{Instance}

-- the expression has bounds at a type that the instance is under, as its own type is one
pub record HasBoundsAt (m : Model) (c : List Instance) (i : ℕ) (e : Expr) : Type 0 where
  pub instance : Instance
  pub stands : slice_get c i ≡ Some instance
  pub kind : ℕ
  pub under : IsTrue (is_a m instance.kind kind)
  pub bounds : Bounds
  pub told : bounds_at m e kind ≡ Some bounds

-- and it nests no deeper than is allowed
pub record IsFaultlessAt (m : Model) (c : List Instance) (i : ℕ) (e : Expr) : Type 0 where
  pub bounded : HasBoundsAt m c i e
  pub shallow : nesting e ≤ most_nesting
