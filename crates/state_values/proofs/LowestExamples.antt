-- Lowest vectors of racks, computed.
use Rattle.std.specs.Prelude.{◌≡◌, pos, neg_ℤ, true, false, [], ◌∷◌, map, codes}
use Rattle.std.proofs.Common.{ap, ◌∙◌}
use Rattle.prod_model.specs.declared.model.Order.{Order}
use Rattle.prod_model.proofs.Models.{rack}
use Rattle.prod_model.proofs.Forms.{sum, total}
use Rattle.config_value.specs.declared.literal.Literal.TheVariants as literal
use Rattle.state_values.specs.Seen.{as_range, high, high_reads}
use Rattle.state_values.specs.Lowest.{lowest_vector, lowest_reads}
use Rattle.state_values.proofs.RackExamples.{at_root, one_card, power_at_root, cost_at_root, cost, power}

-- a cost that is minimised, and a power that is maximised
abbrev cost_and_power : Order
cost_and_power = record {
  requests = [];
  criteria = record { name = codes "cost"; maximise = false; value = total 0 0 } ∷ record { name = codes "power"; maximise = true; value = sum 0 1 } ∷ [];
}

-- The cost is 0 at least and the power 80 at most.
lowest_at_root : lowest_vector rack cost_and_power at_root ≡ pos 0 ∷ neg_ℤ (pos 80) ∷ []
unfolding lowest_vector
lowest_at_root =
    ap (λ s. (as_range s).low.number ∷ neg_ℤ (high rack at_root 1 0 (sum 0 1)) ∷ []) cost_at_root
    ∙ ap (λ s. pos 0 ∷ neg_ℤ (as_range s).high.number ∷ []) power_at_root

-- With one card of a price of 10 at least and a power of 12 at most, they are 60 and 12.
lowest_with_card : lowest_vector rack cost_and_power one_card ≡ pos 60 ∷ neg_ℤ (pos 12) ∷ []
unfolding lowest_vector
lowest_with_card =
    ap (λ s. (as_range s).low.number ∷ neg_ℤ (high rack one_card 1 0 (sum 0 1)) ∷ []) cost
    ∙ ap (λ s. pos 60 ∷ neg_ℤ (as_range s).high.number ∷ []) power

-- what shows 60, and 12
reads : map (lowest_reads rack one_card) cost_and_power.criteria
    ≡ (literal.Kind 0 0 ∷ literal.AtLeast 0 0 (pos 50) ∷ literal.Kind 1 0 ∷ literal.AtLeast 1 0 (pos 10) ∷ [])
    ∷ (literal.NotKind 0 2 ∷ literal.AtMost 1 1 (pos 12) ∷ literal.FreshAtMost 0 0 2 0 ∷ []) ∷ []
reads =
    ap (λ s. (as_range s).low.by ∷ high_reads rack one_card 1 0 (sum 0 1) ∷ []) cost
    ∙ ap (λ s. (literal.Kind 0 0 ∷ literal.AtLeast 0 0 (pos 50) ∷ literal.Kind 1 0 ∷ literal.AtLeast 1 0 (pos 10) ∷ []) ∷ (as_range s).high.by ∷ []) power
