use Rattle.std.proofs.Common.{rules, ◌∙◌, SFits, w64}
use Rattle.std.proofs.lemmas.Int.{to_z-of_z}
use Rattle.reason_trail.proofs.InTurn.{two_added, ok_then, err_then, begins_longer, begins_on}
use Rattle.reason_trail.proofs.GapsLeft.{values_told}
use Rattle.reason_trail.proofs.appended.push_values.Goals as goal

pub returns-clause-described : goal.returns-clause-described
returns-clause-described c =
    let low : SFits w64 c.low.result = search rules in
    let high : SFits w64 c.high.result = search rules in
    ok_then _ _ (λ rest.
    values_told c.args.i c.args.attr c.args.state.now c.requires c.low.ensures.formed c.args.into.now c.push.new.self c.push-2.new.self c.push_gaps.new.into _ _
    (to_z-of_z w64 c.low.result low ∙ c.low.ensures.least) (to_z-of_z w64 c.high.result high ∙ c.high.ensures)
    c.in_ok-push.ensures.pushed c.in_ok-push-2.ensures.pushed rest) c.push_gaps.result c.push_gaps.ensures.described

pub returns-clause-begun : goal.returns-clause-begun
returns-clause-begun c =
    err_then _ _ (λ begun.
    begins_on c.args.into.now c.push-2.new.self c.push_gaps.new.into
    (begins_longer c.args.into.now _ c.push-2.new.self (two_added c.args.into.now c.push.new.self c.push-2.new.self _ _ c.in_ok-push.ensures.pushed c.in_ok-push-2.ensures.pushed)) begun)
    c.push_gaps.result c.push_gaps.ensures.begun
