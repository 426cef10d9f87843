use Rattle.std.proofs.Common.{rules, ◌∙◌, ap₂, w64, SFits}
use Rattle.std.specs.Ordering.{int_eq}
use Rattle.partial_state.proofs.WholeParts.{one_value, same_bits}
use Rattle.partial_state.proofs.values.AttributeDomain.has_one.Goals as goal

-- the least is the greatest
pub returns : goal.returns
returns c =
    let low : SFits w64 c.low.result = search rules in
    let high : SFits w64 c.high.result = search rules in
    same_bits c.low.result c.high.result low high
    ∙ ap₂ int_eq c.low.ensures.least c.high.ensures
    ∙ one_value c.args.self.now c.low.ensures.formed
