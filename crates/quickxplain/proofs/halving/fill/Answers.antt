-- One place is filled after the other.
use Rattle.std.proofs.Common.{sym, ◌∙◌, ap, arith, length, add-one, set, ◌<◌}
use Rattle.quickxplain.specs.steps.Ranges.{fill}
use Rattle.quickxplain.proofs.Ranges.{fill-empty, fill-more}
use Rattle.quickxplain.proofs.halving.fill.Goals as goal

pub loop-i-init : goal.loop-i-init
loop-i-init c = sym (fill-empty c.args.from c.args.kept c.args.keep.now)

pub loop-i-preserved : goal.loop-i-preserved
loop-i-preserved c =
    let room : c.loop-i.i < length c.args.keep.now = omega (arith, c.loop-i-test.true, c.requires.high) in
    ap (λ k. set k c.loop-i.i c.args.kept) c.loop-i.invariant
    ∙ fill-more c.args.from c.loop-i.i c.args.kept c.args.keep.now c.loop-i.auto.i room
    ∙ ap (λ n. fill c.args.from n c.args.kept c.args.keep.now) (sym (add-one c.loop-i.i))
