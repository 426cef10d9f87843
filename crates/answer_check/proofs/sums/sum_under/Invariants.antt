use Rattle.std.proofs.Common.{◌≡◌, ◌*◌, take, map, pos, neg_ℤ, ◌≤ℤ◌, cond}
use Rattle.prod_model.specs.ExprBounds.{sum_of}
use Rattle.config_value.specs.Value.{value_of, under}
use Rattle.answer_check.proofs.sums.sum_under.Given as goal

-- the sum so far, and how far it can be from 0
abbrev pub invariant-loop-i : goal.invariant-loop-i
invariant-loop-i l = record {
  sum : l.sum ≡ sum_of (map (λ x. cond (under l.problem l.kind x) (value_of l.problem x l.id) (pos 0)) (take l.i l.c));
  low : neg_ℤ (pos (9223372036854775808 * l.i)) ≤ℤ l.sum;
  high : l.sum ≤ℤ pos (9223372036854775808 * l.i);
}
