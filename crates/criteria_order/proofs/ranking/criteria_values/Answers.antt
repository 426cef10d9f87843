-- Each place has its value.
use Rattle.std.proofs.Common.{◌≡◌, ap, pos, length, arith}
use Rattle.std.proofs.lemmas.List.{ext_get_or, length-map}
use Rattle.config_value.specs.Value.{number_at}
use Rattle.criteria_order.specs.CriteriaValues.{criteria_values as criteria_values_of}
use Rattle.criteria_order.proofs.ranking.criteria_values.Goals as goal

pub returns : goal.returns
returns c =
    let values = criteria_values_of c.args.problem.now c.args.order.now c.args.c.now in
    let long : length values ≡ length c.args.order.now.criteria = length-map c.args.order.now.criteria (λ r. number_at c.args.problem.now c.args.c.now 0 r.value) in
    let same : length c.as_slice-criteria.result.now ≡ length c.args.order.now.criteria = ap length c.as_slice-criteria.ensures in
    ext_get_or (pos 0) c.loop-i.into values (omega (arith, long, c.loop-i.auto.into, c.requires.each_criterion))
    (λ j within. c.loop-i.invariant j (omega (arith, within, same, c.loop-i.auto.into, c.requires.each_criterion, c.loop-i-test.false)))
