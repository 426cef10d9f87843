-- The bounds of an expression hold: laws of values in shaped configurations.
use Rattle.std.specs.Prelude.{◌≡◌, ℕ, ◌≤ℤ◌, IsTrue, List, slice_get, Some}
use Rattle.prod_model.specs.declared.model.Model.{Model}
use Rattle.prod_model.specs.declared.expr.Expr.{Expr}
use Rattle.prod_model.specs.declared.expr_bounds.Bounds.{Bounds}
use Rattle.prod_model.specs.declared.expr_bounds.Bounds.TheVariants as bounds
use Rattle.prod_model.specs.Forest.{is_a}
use Rattle.prod_model.specs.ExprBounds.{bounds_at}
use Rattle.prod_model.specs.Valid.{IsDeclared}
use Rattle.config_value.specs.declared.configuration.Instance.{Instance}
use Rattle.config_value.specs.declared.found.Found.{Found}
use Rattle.config_value.specs.declared.found.Found.TheVariants as found
use Rattle.config_value.specs.Value.{value_at}
use Rattle.config_value.specs.Shaped.{is_shaped}
use Rattle.config_value.specs.Spelled.{is_spelled}

-- a number between the bounds, or a truth where a truth is told
abbrev pub IsWithinBounds : Bounds → Found → Type 0
IsWithinBounds (bounds.Number low high) (found.Number n) = (low ≤ℤ n) × (n ≤ℤ high)
IsWithinBounds (bounds.Number low high) (found.Truth b) = ⊥
IsWithinBounds bounds.Truth (found.Number n) = ⊥
IsWithinBounds bounds.Truth (found.Truth b) = Unit {0}

-- In a shaped configuration, at each instance under a type, the value of an expression lies within
-- its bounds at the type.
abbrev pub BoundsHold : Type 0
BoundsHold = (m : Model) (c : List Instance) (e : Expr) (i t : ℕ) (x : Instance) (b : Bounds)
    → IsDeclared m → IsTrue (is_shaped m c) → slice_get c i ≡ Some x → IsTrue (is_a m x.kind t)
    → bounds_at m e t ≡ Some b → IsWithinBounds b (value_at m c i e)

-- A shaped configuration of a valid model can be spelled.
abbrev pub ShapedIsSpelled : Type 0
ShapedIsSpelled =
    (m : Model) (c : List Instance) → IsDeclared m → IsTrue (is_shaped m c)
    → IsTrue (is_spelled m c)
