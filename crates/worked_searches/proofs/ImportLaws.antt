-- What a search takes.
use Rattle.std.proofs.Common.{◌≡◌, List, ◌&&◌, ap, refl, arith}
use Rattle.prod_model.specs.declared.model.Model.{Model}
use Rattle.prod_model.specs.declared.model.Order.{Order}
use Rattle.config_value.specs.declared.literal.Literal.{Literal}
use Rattle.literal_book.specs.declared.added.Added.{Added}
use Rattle.literal_book.specs.declared.added.Added.TheVariants.{Added as IsLast, Full, TooLong}
use Rattle.literal_book.specs.declared.nogood.Nogood.{Nogood}
use Rattle.literal_book.specs.Nogoods.{excludes, has_literals, IsSound}
use Rattle.seq_search.specs.Searches.{Search, IsImported}
use Rattle.worked_racks.specs.Unmet.{FirstIsUnmet}

-- each nogood of a first request that is never met is sound
pub unmet_is_sound : (m : Model) (o : Order) (ls : List Literal) → FirstIsUnmet m o
    → IsSound m o (record { requests = 1; literals = ls })
unfolding excludes
unmet_is_sound m o ls unmet c satisfied = ap (λ b. b && has_literals m c ls) (unmet c satisfied)

-- a search that was given a nogood is of the same job
pub same_job : (n : Nogood) (a : Added) (s t : Search) → IsImported n a s t → t.job ≡ s.job
same_job n IsLast s t imported = ap (λ u. u.job) (imported.added refl)
same_job n Full s t imported = ap (λ u. u.job) (imported.unchanged (λ is. grind arith))
same_job n TooLong s t imported = ap (λ u. u.job) (imported.unchanged (λ is. grind arith))
