-- The least ranks decide, and else the key start.
use Rattle.std.proofs.Common.{◌≡◌, ◌∙◌, ap, sym, refl, List, int_cmp}
use Rattle.std.specs.declared.cmp.Ordering.{Ordering}
use Rattle.std.specs.declared.cmp.Ordering.TheVariants.{Less, Equal, Greater}
use Rattle.std.specs.Prelude.{IsTrue}
use Rattle.std.specs.Ordering.{ordering_then, is_gt}
use Rattle.std.specs.Cmp.Lexicographic.{slice_cmp}
use Rattle.prod_model.specs.declared.model.Model.{Model}
use Rattle.prod_model.specs.declared.model.Criterion.{Criterion}
use Rattle.config_value.specs.declared.configuration.Instance.{Instance}
use Rattle.config_value.specs.Rank.{rank}
use Rattle.state_space.specs.State.{State}
use Rattle.state_values.specs.Lowest.{lowest_vector}
use Rattle.state_values.specs.KeyStart.{key_start_order}
use Rattle.reason_trail.specs.Jobs.{Task}
use Rattle.criteria_order.specs.steps.Ranks.{rank_values}
use Rattle.branch_cut.specs.Cuts.{cut_order, IsCutDemanded}
use Rattle.branch_cut.specs.steps.Lows.{lowest_values}

-- how the least values of all criteria compare with the rank of a configuration
abbrev pub lowest_order : Task → State → List Instance → List Criterion → Ordering
lowest_order j s best criteria = slice_cmp int_cmp (lowest_values j.model s criteria) (rank_values j.model best criteria)

-- how the two compare, by both parts
pub cut_decides : (j : Task) (s : State) (best : List Instance) (d k : Ordering) → d ≡ lowest_order j s best j.order.criteria
    → k ≡ key_start_order j.model s best → cut_order j s best ≡ ordering_then d k
unfolding lowest_vector rank
cut_decides j s best d k vectors keys = sym (ap (λ x. ordering_then x k) vectors ∙ ap (ordering_then (lowest_order j s best j.order.criteria)) keys)

-- the same, where the model and the criteria are those of the task
pub vectors_of : (j : Task) (s : State) (best : List Instance) (m : Model) (criteria : List Criterion) (d : Ordering)
    → m ≡ j.model → criteria ≡ j.order.criteria → d ≡ slice_cmp int_cmp (lowest_values m s criteria) (rank_values m best criteria)
    → d ≡ lowest_order j s best j.order.criteria
vectors_of j s best m criteria d model own is =
    is ∙ ap (λ k. slice_cmp int_cmp (lowest_values k s criteria) (rank_values k best criteria)) model ∙ ap (lowest_order j s best) own

-- where the least ranks come before, no cut is demanded
pub before_is_no_cut : (j : Task) (s : State) (best : List Instance) (d : Ordering) → d ≡ lowest_order j s best j.order.criteria → d ≡ Less → ¬ IsCutDemanded j s best
before_is_no_cut j s best d vectors is demanded =
    let order = cut_decides j s best d (key_start_order j.model s best) vectors refl in
    let less : Less ≡ Greater = sym (order ∙ ap (λ x. ordering_then x (key_start_order j.model s best)) is) ∙ demanded in
    absurd cc

-- where they are equal, the key start decides
pub keys_decide : (j : Task) (s : State) (best : List Instance) (d k : Ordering) → d ≡ lowest_order j s best j.order.criteria → d ≡ Equal
    → k ≡ key_start_order j.model s best → cut_order j s best ≡ k
keys_decide j s best d k vectors is keys = cut_decides j s best d k vectors keys ∙ ap (λ x. ordering_then x k) is

-- where they come after, it is
pub after_is_cut : (j : Task) (s : State) (best : List Instance) (d : Ordering) → d ≡ lowest_order j s best j.order.criteria → d ≡ Greater → IsCutDemanded j s best
after_is_cut j s best d vectors is =
    cut_decides j s best d (key_start_order j.model s best) vectors refl ∙ ap (λ x. ordering_then x (key_start_order j.model s best)) is

-- what is told to be after is after
pub gt_told : (o : Ordering) → IsTrue (is_gt o) → o ≡ Greater
gt_told Less is = absurd cc
gt_told Equal is = absurd cc
gt_told Greater is = refl
