use mir.Val.{SFits}
use mir.Syntax.{w64}
use Rattle.std.proofs.lemmas.Int.{ints, to_z-of_z}
use Rattle.partial_state.specs.steps.Clamped.{IsClamped}
use Rattle.std.proofs.Common.{arith, pos, nat_le}
use Rattle.std.specs.Prelude.{int_le}
use Rattle.partial_state.proofs.WordNarrowings.{all_at_least, words_alike, clamped_ge}
use Rattle.partial_state.proofs.words.at_least.Goals as goal

pub returns-then-n-lt0 : goal.returns-then-n-lt0
returns-then-n-lt0 c = all_at_least c.args.words.now c.args.n c.requires (grind (arith, ints))

pub returns : goal.returns
returns c =
    let fits : SFits w64 c.args.n = c.ranges.n in
    let clamped : IsClamped c.args.n c.clamped.result = simp to_z-of_z at c.clamped.ensures in
    words_alike (λ k. nat_le c.clamped.result k) (λ k. int_le c.args.n (pos k)) c.args.words.now c.at_least.new.self c.at_least.result c.requires
    (λ k below. clamped_ge c.args.n c.clamped.result k clamped below) c.at_least.ensures
