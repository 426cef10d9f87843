use Rattle.std.proofs.Common.{arith}
use Rattle.std.proofs.lemmas.Int.{ints}
use Rattle.config_value.specs.Value.{value_at_instance}
use Rattle.config_value.proofs.IntSums.{sum_more}
use Rattle.answer_check.proofs.sums.sum_links.Goals as goal

pub loop-j-preserved : goal.loop-j-preserved
loop-j-preserved c =
    let more = sum_more (value_at_instance c.args.problem.now c.args.c.now c.args.id) c.args.links.now c.loop-j.j-index 0 c.loop-j-test.true in
    record {
      sum = omega (arith, ints, more, c.value_at_instance.ensures, c.loop-j.invariant.sum);
      low = omega (arith, ints);
      high = omega (arith, ints);
    }
