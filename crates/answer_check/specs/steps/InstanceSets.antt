-- Where an expression has bounds, and where it is true, in sets of instances.
use Rattle.std.specs.Prelude.{◌≡◌, ℕ, ◌&&◌, IsTrue, List, slice_get, Some}
use Rattle.instance_set.specs.declared.set.InstanceSet.{InstanceSet}
use Rattle.instance_set.specs.InstanceSets.{is_member}
use Rattle.prod_model.specs.declared.model.Model.{Model}
use Rattle.prod_model.specs.declared.expr.Expr.{Expr}
use Rattle.config_value.specs.declared.configuration.Instance.{Instance}
use Rattle.config_value.specs.Value.{is_true_at}
use Rattle.answer_check.specs.Faultless.{HasBoundsAt}

-- the expression has bounds at each instance of the set
abbrev pub HasBoundsAmong : Model → List Instance → InstanceSet → Expr → Type 0
HasBoundsAmong m c among e = (i : ℕ) → IsTrue (is_member among i) → HasBoundsAt m c i e

-- and each of these expressions has
abbrev pub EachHasBoundsAmong : Model → List Instance → InstanceSet → List Expr → Type 0
EachHasBoundsAmong m c among args =
    (k : ℕ) (e : Expr) → slice_get args k ≡ Some e → HasBoundsAmong m c among e

-- of the instances of a set, those at which the expression is true
abbrev pub AreTrueAmong : Model → List Instance → InstanceSet → Expr → InstanceSet → Type 0
AreTrueAmong m c among e found =
    (i : ℕ) → is_member found i ≡ (is_member among i && is_true_at m c i e)
