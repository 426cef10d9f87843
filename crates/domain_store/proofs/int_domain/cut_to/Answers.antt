use Rattle.std.proofs.Common.{◌≡◌, length, ◌∙◌, arith}
use Rattle.domain_store.proofs.Fronts.{kept_done, kept_rest, skipped_done, skipped_rest}
use Rattle.domain_store.proofs.int_domain.cut_to.Goals.{then-is_some, else-is_some}
use Rattle.domain_store.proofs.int_domain.cut_to.Goals as goal

-- what is left of the next interval is put behind the others, where there is some
pub loop-i-preserved : goal.loop-i-preserved
loop-i-preserved c =
    let l = c.loop-i.invariant in
    let long : length c.if-is_some.intervals ≡ length c.args.intervals.now = c.if-is_some.auto.intervals ∙ l.length in
    elim c.if-is_some.branch [
      | then-is_some w ↦ record {
        length = long;
        behind = omega (arith, l.behind, w.count-is);
        done = kept_done c.args.range c.args.intervals.now c.loop-i.intervals c.loop-i.i c.loop-i.count _ c.common-part.result l.length c.loop-i-test.true l.behind l.done l.rest c.common-part.ensures c.if-is_some.intervals c.if-is_some.count w.if-is_some.ensures w.intervals-is w.count-is;
        rest = kept_rest c.args.range c.args.intervals.now c.loop-i.intervals c.loop-i.i c.loop-i.count _ c.common-part.result l.length c.loop-i-test.true l.behind l.done l.rest c.common-part.ensures c.if-is_some.intervals c.if-is_some.count w.intervals-is;
      }
      | else-is_some w ↦ record {
        length = long;
        behind = omega (arith, l.behind, w.count-is);
        done = skipped_done c.args.range c.args.intervals.now c.loop-i.intervals c.loop-i.i c.loop-i.count _ c.common-part.result l.length c.loop-i-test.true l.behind l.done l.rest c.common-part.ensures c.if-is_some.intervals c.if-is_some.count w.if-is_some.ensures w.intervals-is w.count-is;
        rest = skipped_rest c.args.range c.args.intervals.now c.loop-i.intervals c.loop-i.i c.loop-i.count _ c.common-part.result l.length c.loop-i-test.true l.behind l.done l.rest c.common-part.ensures c.if-is_some.intervals c.if-is_some.count w.intervals-is;
      }
    ]
