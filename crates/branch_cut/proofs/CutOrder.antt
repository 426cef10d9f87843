-- The order of pairs of a rank and a key, and what is not before a lower bound of both.
use Rattle.std.proofs.Common.{◌≡◌, ◌≢◌, ℤ, List, refl, sym, ap, ◌∙◌}
use Rattle.std.specs.declared.cmp.Ordering.{Ordering}
use Rattle.std.specs.declared.cmp.Ordering.TheVariants.{Less, Equal, Greater}
use Rattle.std.specs.Ordering.{int_cmp, ordering_then, ordering_reverse}
use Rattle.std.specs.Cmp.{IsTotalOrder}
use Rattle.std.specs.Cmp.Lexicographic.{slice_cmp}
use Rattle.std.proofs.lemmas.Cmp.{int_cmp_total, lists_total, then_total, on_total}

-- a rank and a key
abbrev Placed : Type 0
Placed = List ℤ × List ℤ

-- by the ranks, and then by the keys
abbrev placed_order : Placed → Placed → Ordering
placed_order x y = ordering_then (slice_cmp int_cmp x.0 y.0) (slice_cmp int_cmp x.1 y.1)

placed_total : IsTotalOrder placed_order
placed_total =
    then_total (on_total (λ (x : Placed). x.0) (lists_total int_cmp_total))
    (on_total (λ (x : Placed). x.1) (lists_total int_cmp_total))

-- what is not after in both parts is not after
then_not_after : (a b : Ordering) → a ≢ Greater → b ≢ Greater → ordering_then a b ≢ Greater
then_not_after Less b na nb = λ e. absurd cc
then_not_after Equal b na nb = nb
then_not_after Greater b na nb = absurd (na refl)

-- A bound that is after one is before all that it bounds only where these are after that one.
bounded_is_after : (p c b : Placed) → placed_order p b ≡ Greater → placed_order p c ≢ Greater
    → placed_order c b ≡ Greater
bounded_is_after p c b after bounds = by (placed_order p c) refl
  where
    before : placed_order b p ≡ Less
    before = placed_total.antisymm b p ∙ ap ordering_reverse after

    by : (o : Ordering) → placed_order p c ≡ o → placed_order c b ≡ Greater
    by Less is = placed_total.antisymm c b ∙ ap ordering_reverse (placed_total.trans b p c before is)
    by Equal is = sym (placed_total.congr p c b is) ∙ after
    by Greater is = absurd (bounds is)

-- Where bounds of a rank and of a key are after those of one, in this order, so are all that they
-- bound.
pub bounded_after : (low rank best_rank start key best_key : List ℤ)
    → ordering_then (slice_cmp int_cmp low best_rank) (slice_cmp int_cmp start best_key) ≡ Greater
    → slice_cmp int_cmp low rank ≢ Greater → slice_cmp int_cmp start key ≢ Greater
    → ordering_then (slice_cmp int_cmp rank best_rank) (slice_cmp int_cmp key best_key) ≡ Greater
bounded_after low rank best_rank start key best_key after low_bounds start_bounds =
    bounded_is_after (low, start) (rank, key) (best_rank, best_key) after
    (then_not_after (slice_cmp int_cmp low rank) (slice_cmp int_cmp start key) low_bounds start_bounds)
