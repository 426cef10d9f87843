-- The configurations that a solver is asked for, and the first of them.
use Rattle.std.specs.Prelude.{Bool, true, IsTrue, Option, None, Some, List}
use Rattle.std.specs.List.{list_all}
use Rattle.prod_model.specs.First.{IsFirst}
use Rattle.prod_model.specs.declared.model.Model.{Model}
use Rattle.prod_model.specs.declared.model.Order.{Order}
use Rattle.prod_model.specs.declared.expr.Expr.{Expr}
use Rattle.config_value.specs.declared.configuration.Instance.{Instance}
use Rattle.config_value.specs.Value.{is_true_at}
use Rattle.config_value.specs.Satisfies.{IsCandidate}
use Rattle.config_value.specs.Rank.{ranks_before, RanksBefore}

-- every extra is true at instance 0
abbrev pub meets_extra : Model → List Expr → List Instance → Bool
meets_extra m extra c = list_all (is_true_at m c 0) extra

-- it ranks after the configuration that is given, if one is
abbrev pub ranks_after : Model → Order → Option (List Instance) → List Instance → Bool
ranks_after m o None c = true
ranks_after m o (Some d) c = ranks_before m o d c

-- it satisfies the model, meets the kept requests and the extras, and ranks after the one given
pub record IsWanted (m : Model) (o : Order) (keep : List Bool) (after : Option (List Instance))
    (extra : List Expr) (c : List Instance) : Type 0 where
  pub candidate : IsCandidate m o keep c
  pub extra_met : IsTrue (meets_extra m extra c)
  pub later : IsTrue (ranks_after m o after c)

-- the one that is wanted before which no wanted one ranks; or there is none, and nothing is wanted
abbrev pub IsFirstWanted : Model → Order → List Bool → Option (List Instance) → List Expr
    → Option (List Instance) → Type 0
IsFirstWanted m o keep after extra None = (c : List Instance) → ¬ IsWanted m o keep after extra c
IsFirstWanted m o keep after extra (Some d) =
    IsFirst (IsWanted m o keep after extra) (RanksBefore m o) d

-- some configuration is wanted
abbrev pub SomeIsWanted : Model → Order → List Bool → Option (List Instance) → List Expr → Type 0
SomeIsWanted m o keep after extra = (c : List Instance) × IsWanted m o keep after extra c
