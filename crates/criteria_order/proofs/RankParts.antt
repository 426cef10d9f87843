-- The rank vectors decide, and else the keys.
use Rattle.std.proofs.Common.{◌≡◌, ◌∙◌, ap, sym, refl, List, int_cmp}
use Rattle.std.specs.declared.cmp.Ordering.{Ordering}
use Rattle.std.specs.declared.cmp.Ordering.TheVariants.{Less, Equal, Greater}
use Rattle.std.specs.Ordering.{ordering_then}
use Rattle.std.specs.Cmp.Lexicographic.{slice_cmp}
use Rattle.prod_model.specs.declared.model.Model.{Model}
use Rattle.prod_model.specs.declared.model.Order.{Order}
use Rattle.config_value.specs.declared.configuration.Instance.{Instance}
use Rattle.config_value.specs.Rank.{rank, rank_order, key_order}
use Rattle.criteria_order.specs.steps.Ranks.{rank_values}

-- how the rank vectors compare
abbrev pub vector_order : Model → Order → List Instance → List Instance → Ordering
vector_order m o a b = slice_cmp int_cmp (rank_values m a o.criteria) (rank_values m b o.criteria)

-- where the vectors are equal, the keys decide
pub keys_decide : (m : Model) (o : Order) (a b : List Instance) (d k : Ordering) → d ≡ vector_order m o a b → d ≡ Equal → k ≡ key_order a b → k ≡ rank_order m o a b
unfolding rank_order rank
keys_decide m o a b d k told tied keys = keys ∙ ap (λ r. ordering_then r (key_order a b)) (sym tied ∙ told)

-- else the vectors do
pub vectors_decide : (m : Model) (o : Order) (a b : List Instance) (d : Ordering) → d ≡ vector_order m o a b → ¬ (d ≡ Equal) → d ≡ rank_order m o a b
unfolding rank_order rank
vectors_decide m o a b d told apart = stays d apart ∙ ap (λ r. ordering_then r (key_order a b)) told
  where
    stays : (d : Ordering) → ¬ (d ≡ Equal) → d ≡ ordering_then d (key_order a b)
    stays Less h = refl
    stays Equal h = absurd (h refl)
    stays Greater h = refl
