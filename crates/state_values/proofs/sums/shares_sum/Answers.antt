use Rattle.std.proofs.Common.{ap, arith}
use Rattle.state_values.specs.declared.interval.Interval.{Interval}
use Rattle.state_values.specs.steps.Added.{share_of}
use Rattle.state_values.proofs.AddedLaws.{sum_of_range_next}
use Rattle.state_values.proofs.sums.shares_sum.Goals as goal

-- one more instance adds its share
pub loop-j-preserved : goal.loop-j-preserved
loop-j-preserved c =
    let next_low = sum_of_range_next (λ j. (share_of c.args.problem.now c.args.p.now c.args.added.now j).low) c.loop-j.j in
    let next_high = sum_of_range_next (λ j. (share_of c.args.problem.now c.args.p.now c.args.added.now j).high) c.loop-j.j in
    let low = ap (λ (x : Interval). x.low) c.share_at.ensures in
    let high = ap (λ (x : Interval). x.high) c.share_at.ensures in
    record { count = omega arith; low = cc; high = cc }
