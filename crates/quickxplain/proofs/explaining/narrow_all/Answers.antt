-- What is kept in the end is what the inner call kept.
use Rattle.std.proofs.Common.{◌≡◌, ◌+◌, ◌*◌, ◌≤◌, subst, arith}
use Rattle.quickxplain.specs.steps.Ranges.{kept_count}
use Rattle.quickxplain.proofs.Wholes.{kept_count_all}
use Rattle.quickxplain.proofs.explaining.narrow_all.Goals as goal

pub returns-clause-asked : goal.returns-clause-asked
returns-clause-asked g c l fits =
    let all = kept_count_all c.args.keep.now c.requires.all in
    let asked = c.in_ok-narrow.ensures.asked l (omega (arith, fits)) in
    let same : c.in_ok-narrow.field-0 ≡ kept_count c.narrow.new.keep = omega (arith, all, c.in_ok-narrow.ensures.count) in
    subst (λ k. g.T.Tester.asked c.narrow.new.tester ≤ g.T.Tester.asked c.args.tester.now + 1 + 2 * k * l) same asked
