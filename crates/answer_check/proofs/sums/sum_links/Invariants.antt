use Rattle.std.proofs.Common.{◌≡◌, ◌*◌, take, map, pos, neg_ℤ, ◌≤ℤ◌}
use Rattle.prod_model.specs.ExprBounds.{sum_of}
use Rattle.config_value.specs.Value.{value_at_instance}
use Rattle.answer_check.proofs.sums.sum_links.Given as goal

-- the sum so far, and how far it can be from 0
abbrev pub invariant-loop-j : goal.invariant-loop-j
invariant-loop-j l = record {
  sum : l.sum ≡ sum_of (map (value_at_instance l.problem l.c l.id) (take l.j-index l.links));
  low : neg_ℤ (pos (9223372036854775808 * l.j-index)) ≤ℤ l.sum;
  high : l.sum ≤ℤ pos (9223372036854775808 * l.j-index);
}
