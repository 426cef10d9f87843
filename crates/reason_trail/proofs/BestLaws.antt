-- Unless any will do, the best of a job is the first that is wanted in rank order.
use Rattle.std.proofs.Common.{◌≡◌, List, ap, sym, ◌∙◌, Some, None}
use Rattle.std.specs.Prelude.{IsFalse, not, ◌&&◌}
use Rattle.config_value.specs.declared.configuration.Instance.{Instance}
use Rattle.config_value.specs.Rank.{ranks_before}
use Rattle.reason_trail.specs.Jobs.{Task, beats, BestIsFirstWanted}

-- unless any will do, to beat is to rank before
beats_is : (j : Task) (c d : List Instance) → IsFalse j.goal.any → beats j c d ≡ ranks_before j.model j.order c d
beats_is j c d rank = ap (λ b. not b && ranks_before j.model j.order c d) rank

pub best_is_first_wanted : BestIsFirstWanted
best_is_first_wanted j None rank = (λ none. none, λ none. none)
best_is_first_wanted j (Some d) rank = (
  λ best. record { is = best.is; none_before = λ c wanted before. best.none_before c wanted (beats_is j c d rank ∙ before) },
  λ first. record { is = first.is; none_before = λ c wanted before. first.none_before c wanted (sym (beats_is j c d rank) ∙ before) },
)
