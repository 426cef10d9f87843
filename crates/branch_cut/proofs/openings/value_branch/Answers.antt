-- Where the greatest value is no more than the least, there is one.
use Rattle.std.proofs.Common.{rules, sym, ap₂, ◌∙◌, w64, SFits}
use Rattle.std.specs.Prelude.{int_le}
use Rattle.std.proofs.lemmas.Int.{to_z-of_z}
use Rattle.branch_cut.proofs.FixedLaws.{one_left}
use Rattle.branch_cut.proofs.openings.value_branch.Goals as goal

pub returns-then-high-value-clause-one : goal.returns-then-high-value-clause-one
returns-then-high-value-clause-one c = λ none.
    let low : SFits w64 c.low-value.result = search rules in
    let high : SFits w64 c.high.result = search rules in
    one_left c.args.p.now c.args.instance c.args.attr c.requires c.low-value.ensures.formed
    (ap₂ int_le (sym c.high.ensures) (sym c.low-value.ensures.least)
    ∙ (ap₂ int_le (sym (to_z-of_z w64 c.high.result high)) (sym (to_z-of_z w64 c.low-value.result low)) ∙ c.if-high-value.true))
