-- One more argument in a sum.
use Rattle.std.specs.Prelude.{ℤ, ◌+ℤ◌, Some, None}
use Rattle.std.specs.declared.option.Option.{Option}
use Rattle.prod_model.specs.declared.expr_bounds.Bounds.{Bounds}
use Rattle.prod_model.specs.declared.expr_bounds.Bounds.TheVariants.{Number as number}

-- the ends of a sum with one more argument, and nothing where it is no number
abbrev pub sum_with : ℤ → ℤ → Option Bounds → Option (ℤ × ℤ)
sum_with low high (Some (number a b)) = Some (low +ℤ a, high +ℤ b)
sum_with low high _ = None
