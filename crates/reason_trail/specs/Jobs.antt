-- Jobs, and the configurations that are wanted of them.
use Rattle.std.specs.Prelude.{◌≡◌, ◌≢◌, ◌⊎◌, Bool, true, not, ◌&&◌, IsTrue, IsFalse, Option, None, Some, IfSome, List, [], length, ◌↔◌}
use Rattle.std.specs.List.{list_all}
use Rattle.prod_model.specs.First.{IsFirst}
use Rattle.prod_model.specs.declared.model.Model.{Model}
use Rattle.prod_model.specs.declared.model.Order.{Order}
use Rattle.prod_model.specs.ExprBounds.{is_truth_at}
use Rattle.prod_model.specs.Valid.{IsValid, IsValidOrder}
use Rattle.config_value.specs.declared.configuration.Instance.{Instance}
use Rattle.config_value.specs.Shaped.{is_shaped}
use Rattle.config_value.specs.Rank.{ranks_before}
use Rattle.criteria_order.specs.Wanted as asked
use Rattle.criteria_order.specs.Wanted.{meets_extra, ranks_after, IsFirstWanted}
use Rattle.reason_trail.specs.declared.goal.Goal.{Goal}

-- what a job is made of
pub record Task : Type 0 where
  pub model : Model
  pub order : Order
  pub goal : Goal

-- What holds of a job for its whole life.
pub record IsTask (j : Task) : Type 0 where
  pub valid : IsValid j.model
  pub order : IsValidOrder j.model j.order
  pub each_request : length j.goal.keep ≡ length j.order.requests
  pub shaped : IfSome j.goal.after (λ d. IsTrue (is_shaped j.model d))
  pub truths : IsTrue (list_all (is_truth_at j.model j.model.root) j.goal.extra)
  -- any will do only where none has to rank after another
  pub any_alone : IsTrue j.goal.any → j.goal.after ≡ None

-- ---- what is wanted

-- It satisfies the model, meets the kept requests and the extras, and ranks after the one given.
abbrev pub IsWanted : Task → List Instance → Type 0
IsWanted j = asked.IsWanted j.model j.order j.goal.keep j.goal.after j.goal.extra

-- To beat is to rank before. Where any will do, none beats another.
abbrev pub beats : Task → List Instance → List Instance → Bool
beats j c d = not j.goal.any && ranks_before j.model j.order c d

-- the same, as a fact
abbrev pub Beats : Task → List Instance → List Instance → Type 0
Beats j c d = IsTrue (beats j c d)

-- It is wanted and no wanted one beats it; or there is none, and nothing is wanted.
abbrev pub IsBestOf : Task → Option (List Instance) → Type 0
IsBestOf j None = (c : List Instance) → ¬ IsWanted j c
IsBestOf j (Some d) = IsFirst (IsWanted j) (Beats j) d

-- Unless any will do, the best is the first that is wanted in rank order.
abbrev pub BestIsFirstWanted : Type 0
BestIsFirstWanted =
    (j : Task) (best : Option (List Instance)) → IsFalse j.goal.any
    → IsBestOf j best
    ↔ IsFirstWanted j.model j.order j.goal.keep j.goal.after j.goal.extra best

-- ---- the cut: all that is neither model nor request

-- it beats the best so far, if there is one
abbrev pub beats_best : Task → Option (List Instance) → List Instance → Bool
beats_best j None c = true
beats_best j (Some d) c = beats j c d

-- It passes the cut: it meets the extras, ranks after the one given, and beats the best so far.
abbrev pub passes : Task → Option (List Instance) → List Instance → Bool
passes j best c =
    meets_extra j.model j.goal.extra c && ranks_after j.model j.order j.goal.after c
    && beats_best j best c

-- the goal itself has a cut
abbrev pub HasCut : Task → Type 0
HasCut j = (j.goal.after ≢ None) ⊎ (j.goal.extra ≢ [])
