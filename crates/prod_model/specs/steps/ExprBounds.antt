-- How the bounds of a sum are found, one argument after another.
use Rattle.std.specs.Prelude.{ℤ, ◌+ℤ◌, List, [], ◌∷◌, Some, None}
use Rattle.std.specs.declared.option.Option.{Option}
use Rattle.prod_model.specs.declared.expr_bounds.Bounds.{Bounds}
use Rattle.prod_model.specs.declared.expr_bounds.Bounds.TheVariants.{Number as number}
use Rattle.prod_model.specs.ExprBounds.{bounded}

-- low and high, with one number for each argument added
abbrev pub sum_onto : ℤ → ℤ → List (Option Bounds) → Option Bounds
sum_onto low high [] = bounded low high
sum_onto low high (Some (number a b) ∷ more) = sum_onto (low +ℤ a) (high +ℤ b) more
sum_onto low high _ = None
