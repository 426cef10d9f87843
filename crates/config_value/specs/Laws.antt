-- Laws of the order on configurations and of conflicts.
use Rattle.std.specs.Prelude.{◌≡◌, ◌⊎◌, ◌↔◌, Bool, not, IsTrue, List}
use Rattle.std.specs.List.{list_all}
use Rattle.prod_model.specs.declared.model.Model.{Model}
use Rattle.prod_model.specs.declared.model.Order.{Order}
use Rattle.config_value.specs.declared.configuration.Instance.{Instance}
use Rattle.config_value.specs.Shaped.{is_shaped}
use Rattle.config_value.specs.Satisfies.{satisfies}
use Rattle.config_value.specs.Rank.{key, RanksBefore}
use Rattle.config_value.specs.Preferred.{IsPreferred}
use Rattle.config_value.specs.Conflict.{IsConflict, IsPreferredConflict, IsProperPart}

-- of two that differ one is before the other, and never both
pub record IsStrictTotalOrder {A : Type 0} (Is : A → Type 0) (IsBefore : A → A → Type 0)
    : Type 0 where
  pub irreflexive : (x : A) → Is x → ¬ IsBefore x x
  pub transitive : (x y z : A) → Is x → Is y → Is z → IsBefore x y → IsBefore y z → IsBefore x z
  pub total : (x y : A) → Is x → Is y → (x ≡ y) ⊎ (IsBefore x y ⊎ IsBefore y x)

-- it is shaped as a configuration of the model
abbrev pub IsShaped : Model → List Instance → Type 0
IsShaped m c = IsTrue (is_shaped m c)

-- On shaped configurations of one model the key determines the configuration.
abbrev pub KeyDetermines : Type 0
KeyDetermines =
    (m : Model) (c d : List Instance) → IsShaped m c → IsShaped m d → key c ≡ key d → c ≡ d

-- On shaped configurations of one model, ranking before is a strict total order.
abbrev pub RanksTotally : Type 0
RanksTotally = (m : Model) (o : Order) → IsStrictTotalOrder (IsShaped m) (RanksBefore m o)

-- There is at most one preferred configuration.
abbrev pub HasOnePreferred : Type 0
HasOnePreferred =
    (m : Model) (o : Order) (keep : List Bool) (c d : List Instance) → IsPreferred m o keep c
    → IsPreferred m o keep d → c ≡ d

-- There is at most one preferred conflict.
abbrev pub HasOnePreferredConflict : Type 0
HasOnePreferredConflict =
    (m : Model) (o : Order) (x y : List Bool) → IsPreferredConflict m o x
    → IsPreferredConflict m o y → x ≡ y

-- No proper part of the preferred conflict is a conflict.
abbrev pub PreferredConflictIsMinimal : Type 0
PreferredConflictIsMinimal =
    (m : Model) (o : Order) (x part : List Bool) → IsPreferredConflict m o x → IsProperPart part x
    → ¬ IsConflict m o part

-- The preferred conflict keeps no request exactly where no configuration satisfies the model.
abbrev pub PreferredConflictIsEmpty : Type 0
PreferredConflictIsEmpty = (m : Model) (o : Order) (x : List Bool) → IsPreferredConflict m o x
    → (IsTrue (list_all not x) ↔ ((c : List Instance) → ¬ IsTrue (satisfies m c)))
