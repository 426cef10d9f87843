use mir.Val.{SFits}
use mir.Syntax.{w64}
use Rattle.std.proofs.lemmas.Int.{ints, to_z-of_z}
use Rattle.partial_state.specs.steps.Clamped.{IsClamped}
use Rattle.std.proofs.Common.{arith, pos, not, ap, ◌==◌}
use Rattle.std.specs.Ordering.{int_eq}
use Rattle.partial_state.proofs.WordNarrowings.{all_other, words_alike, clamped_eq}
use Rattle.partial_state.proofs.words.remove.Goals as goal

pub returns-then-n-lt0 : goal.returns-then-n-lt0
returns-then-n-lt0 c = all_other c.args.words.now c.args.n c.requires (grind (arith, ints))

pub returns : goal.returns
returns c =
    let fits : SFits w64 c.args.n = c.ranges.n in
    let clamped : IsClamped c.args.n c.clamped.result = simp to_z-of_z at c.clamped.ensures in
    words_alike (λ k. not (k == c.clamped.result)) (λ k. not (int_eq (pos k) c.args.n)) c.args.words.now c.remove.new.self c.remove.result c.requires
    (λ k below. ap not (clamped_eq c.args.n c.clamped.result k clamped below)) c.remove.ensures
