-- What a first request that is never met makes sound.
use Rattle.std.proofs.Common.{◌≡◌, List, ◌&&◌, ap, sym, subst, ◌∙◌}
use Rattle.prod_model.specs.declared.model.Model.{Model}
use Rattle.prod_model.specs.declared.model.Order.{Order}
use Rattle.config_value.specs.declared.literal.Literal.{Literal}
use Rattle.literal_book.specs.Nogoods.{excludes, has_literals, IsSound}
use Rattle.nogood_store.specs.Stores.{Held}
use Rattle.reason_trail.specs.Jobs.{Task}
use Rattle.worked_racks.specs.Unmet.{FirstIsUnmet}
use Rattle.worked_stores.specs.steps.Stores.{IsStoreOf}

unmet_is_sound : (m : Model) (o : Order) (ls : List Literal) → FirstIsUnmet m o
    → IsSound m o (record { requests = 1; literals = ls })
unfolding excludes
unmet_is_sound m o ls unmet c satisfied = ap (λ b. b && has_literals m c ls) (unmet c satisfied)

-- each nogood of the request is sound for such a store
pub sound_in : (j : Task) (h : Held) (ls : List Literal) → IsStoreOf j h
    → IsSound h.model h.order (record { requests = 1; literals = ls })
sound_in j h ls is =
    subst (λ m. IsSound m h.order (record { requests = 1; literals = ls })) (sym is.model)
    (subst (λ o. IsSound j.model o (record { requests = 1; literals = ls })) (sym is.order)
    (unmet_is_sound j.model j.order ls is.unmet))

-- a store of the same model and order is one, too
pub still_of : (j : Task) (old new : Held) → IsStoreOf j old → new.model ≡ old.model
    → new.order ≡ old.order → IsStoreOf j new
still_of j old new is model order = record {
  model = model ∙ is.model;
  order = order ∙ is.order;
  unmet = is.unmet;
}
