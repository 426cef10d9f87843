use mir.Val.{SFits}
use mir.Syntax.{w64}
use Rattle.std.proofs.Common.{arith, ◌∙◌}
use Rattle.std.proofs.lemmas.Int.{ints, to_z-of_z}
use Rattle.partial_state.specs.steps.Clamped.{IsClamped}
use Rattle.partial_state.proofs.ValueNarrowings.{words_contain, words_contain_none}
use Rattle.partial_state.proofs.words.contains.Goals as goal

pub returns-then-n-lt0 : goal.returns-then-n-lt0
returns-then-n-lt0 c = words_contain_none c.args.words.now c.args.n (grind (arith, ints))

pub returns : goal.returns
returns c =
    let fits : SFits w64 c.args.n = c.ranges.n in
    let clamped : IsClamped c.args.n c.clamped.result = simp to_z-of_z at c.clamped.ensures in
    c.contains.ensures ∙ words_contain c.args.words.now c.args.n c.clamped.result c.requires clamped
