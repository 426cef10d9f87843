use Rattle.std.proofs.Common.{◌≡◌, ◌*◌, take, map, pos, neg_ℤ, ◌≤ℤ◌}
use Rattle.prod_model.specs.ExprBounds.{sum_of}
use Rattle.config_value.specs.Value.{number_at}
use Rattle.answer_check.proofs.numbers.+numbers.Given as goal

-- the sum so far, and how far it can be from 0
abbrev pub invariant-sum_of_all-loop-e : goal.invariant-sum_of_all-loop-e
invariant-sum_of_all-loop-e l = record {
  sum : l.sum ≡ sum_of (map (number_at l.problem l.c l.i) (take l.e-index l.args));
  low : neg_ℤ (pos (9223372036854775808 * l.e-index)) ≤ℤ l.sum;
  high : l.sum ≤ℤ pos (9223372036854775808 * l.e-index);
}
