-- What the numbers of the root product can't be.
use Rattle.std.specs.Prelude.{◌≡◌, ◌≤ℤ◌, ◌<ℤ◌, ℤ, false, IsTrue, Option, Some, List}
use Rattle.prod_model.specs.declared.expr.Expr.{Expr}
use Rattle.prod_model.specs.declared.model.Model.{Model}
use Rattle.config_value.specs.declared.configuration.Instance.{Instance}
use Rattle.config_value.specs.Satisfies.{satisfies}
use Rattle.config_value.specs.Value.{number_at, is_true_at}

-- at the root product the number is at most that one
abbrev pub IsAtMost : Model → Expr → ℤ → Type 0
IsAtMost m e most = (c : List Instance) → IsTrue (satisfies m c) → number_at m c 0 e ≤ℤ most

-- at the root product the number is at least that one
abbrev pub IsAtLeast : Model → Expr → ℤ → Type 0
IsAtLeast m e least = (c : List Instance) → IsTrue (satisfies m c) → least ≤ℤ number_at m c 0 e

-- both are known, and the first is less
abbrev pub IsBelow : Option ℤ → Option ℤ → Type 0
IsBelow (Some a) (Some b) = a <ℤ b
IsBelow _ _ = ⊥

-- at the root product it is false
abbrev pub IsNever : Model → Expr → Type 0
IsNever m e = (c : List Instance) → IsTrue (satisfies m c) → is_true_at m c 0 e ≡ false
