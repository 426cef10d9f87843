use Rattle.std.proofs.Common.{◌≡◌, take}
use Rattle.state_values.specs.steps.Forms.{own_sum, seen_sum}
use Rattle.state_values.proofs.numbers.+numbers.Given as goal

-- the sums over the arguments so far
abbrev pub invariant-sum_of_all-loop-e : goal.invariant-sum_of_all-loop-e
invariant-sum_of_all-loop-e l = record {
  own_count : l.own.count ≡ l.e-index;
  seen_count : l.seen.count ≡ l.e-index;
  own_low : l.own.low ≡ (own_sum l.problem l.kind (take l.e-index l.args)).low;
  own_high : l.own.high ≡ (own_sum l.problem l.kind (take l.e-index l.args)).high;
  seen_low : l.seen.low ≡ (seen_sum l.problem l.p l.kind l.i (take l.e-index l.args)).low;
  seen_high : l.seen.high ≡ (seen_sum l.problem l.p l.kind l.i (take l.e-index l.args)).high;
}
