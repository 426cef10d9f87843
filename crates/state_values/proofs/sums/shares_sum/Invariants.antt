use Rattle.std.proofs.Common.{◌≡◌}
use Rattle.std.specs.List.{range_with_len}
use Rattle.state_values.specs.steps.Added.{shares_sum}
use Rattle.state_values.proofs.sums.shares_sum.Given as goal

-- the sums over the instances so far
abbrev pub invariant-loop-j : goal.invariant-loop-j
invariant-loop-j l = record {
  count : l.sum.count ≡ l.j;
  low : l.sum.low ≡ (shares_sum l.problem l.p l.added (range_with_len 0 l.j)).low;
  high : l.sum.high ≡ (shares_sum l.problem l.p l.added (range_with_len 0 l.j)).high;
}
