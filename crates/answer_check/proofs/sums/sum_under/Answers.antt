use Rattle.std.proofs.Common.{◌≤◌, ◌∙◌, ap, sym, arith, cond, pos, map, length}
use Rattle.std.proofs.lemmas.Int.{ints}
use Rattle.std.proofs.lemmas.List.{take_all}
use Rattle.prod_model.specs.ExprBounds.{sum_of}
use Rattle.config_value.specs.declared.configuration.Instance.{Instance}
use Rattle.config_value.specs.Value.{value_of, under}
use Rattle.config_value.proofs.IntSums.{sum_next, sum_filtered}
use Rattle.answer_check.proofs.sums.sum_under.Goals as goal

pub loop-i-preserved : goal.loop-i-preserved
loop-i-preserved c =
    let next = sum_next (λ x. cond (under c.args.problem.now c.args.kind x) (value_of c.args.problem.now x c.args.id) (pos 0)) c.args.c.now c.loop-i.i c.get.result.now c.get.ensures in
    record {
      sum = omega (arith, ints, next, c.value_under.ensures, c.loop-i.invariant.sum);
      low = omega (arith, ints);
      high = omega (arith, ints);
    }

pub returns : goal.returns
returns c =
    let own = λ (x : Instance). cond (under c.args.problem.now c.args.kind x) (value_of c.args.problem.now x c.args.id) (pos 0) in
    let all : length c.args.c.now ≤ c.loop-i.i = omega arith in
    c.loop-i.invariant.sum
    ∙ ap (λ xs. sum_of (map own xs)) (take_all c.loop-i.i c.args.c.now all)
    ∙ sym (sum_filtered (under c.args.problem.now c.args.kind) (λ x. value_of c.args.problem.now x c.args.id) c.args.c.now)
