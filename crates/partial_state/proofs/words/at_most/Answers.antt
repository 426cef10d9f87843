use mir.Val.{SFits}
use mir.Syntax.{w64}
use Rattle.std.proofs.lemmas.Int.{ints, to_z-of_z}
use Rattle.partial_state.specs.steps.Clamped.{IsClamped}
use Rattle.std.proofs.Common.{arith, pos, nat_le}
use Rattle.std.specs.Prelude.{int_le}
use Rattle.partial_state.proofs.WordNarrowings.{none_at_most, words_alike, clamped_le}
use Rattle.partial_state.proofs.words.at_most.Goals as goal

pub returns-then-n-lt0 : goal.returns-then-n-lt0
returns-then-n-lt0 c = none_at_most c.args.words.now c.args.n c.requires (grind (arith, ints))

pub returns : goal.returns
returns c =
    let fits : SFits w64 c.args.n = c.ranges.n in
    let clamped : IsClamped c.args.n c.clamped.result = simp to_z-of_z at c.clamped.ensures in
    words_alike (λ k. nat_le k c.clamped.result) (λ k. int_le (pos k) c.args.n) c.args.words.now c.at_most.new.self c.at_most.result c.requires
    (λ k below. clamped_le c.args.n c.clamped.result k clamped below) c.at_most.ensures
