-- The preferred configuration.
use Rattle.std.specs.Prelude.{Bool, List}
pub use Rattle.prod_model.specs.First.{IsFirst}
use Rattle.prod_model.specs.declared.model.Model.{Model}
use Rattle.prod_model.specs.declared.model.Order.{Order}
use Rattle.config_value.specs.declared.configuration.Instance.{Instance}
use Rattle.config_value.specs.Satisfies.{IsCandidate}
use Rattle.config_value.specs.Rank.{RanksBefore}

-- of the configurations that satisfy the model and meet the kept requests, the one before which
-- none ranks
abbrev pub IsPreferred : Model → Order → List Bool → List Instance → Type 0
IsPreferred m o keep = IsFirst (IsCandidate m o keep) (RanksBefore m o)
