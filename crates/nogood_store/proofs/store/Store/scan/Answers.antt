use Rattle.std.proofs.Common.{◌≡◌, length, map, ap, sym, subst, ◌∙◌, arith, below_more}
use Rattle.std.proofs.lemmas.List.{length-map}
use Rattle.nogood_store.specs.Stores.{Applies}
use Rattle.nogood_store.proofs.Kept.{at_kept, applies_there, passed_there, none_applies}
use Rattle.nogood_store.proofs.store.Store.scan.Goals as goal

-- it applies, and none before it does
pub returns-then-applies : goal.returns-then-applies
returns-then-applies c =
    let h = c.args.self.now in
    let same : map (λ w. w.nogood) c.deref-watched-items.result.now ≡ h.nogoods =
    ap (map (λ w. w.nogood)) c.deref-watched-items.ensures.value ∙ ap (λ h. h.nogoods) c.self.view_is in
    let at = at_kept c.deref-watched-items.result.now h.nogoods c.loop-k.k c.watched-item.result same c.loop-k-test.true c.watched-item.is in
    let is = subst (λ m. Applies m c.args.keep.now c.args.trail.now.state c.watched-item.result.nogood) c.requires (c.applies.ensures.0 c.if-applies.true) in
    record {
      is = applies_there h.model c.args.keep.now c.args.trail.now.state h.nogoods c.loop-k.k c.watched-item.result.nogood at is;
      none_before = λ place applies before. c.loop-k.invariant place before applies;
    }

pub loop-k-preserved : goal.loop-k-preserved
loop-k-preserved c =
    let h = c.args.self.now in
    let same : map (λ w. w.nogood) c.deref-watched-items.result.now ≡ h.nogoods =
    ap (map (λ w. w.nogood)) c.deref-watched-items.ensures.value ∙ ap (λ h. h.nogoods) c.self.view_is in
    let at = at_kept c.deref-watched-items.result.now h.nogoods c.loop-k.k c.watched-item.result same c.loop-k-test.true c.watched-item.is in
    let none : ¬ Applies h.model c.args.keep.now c.args.trail.now.state c.watched-item.result.nogood =
    λ is. absurd (let holds = c.applies.ensures.1 (subst (λ m. Applies m c.args.keep.now c.args.trail.now.state c.watched-item.result.nogood) (sym c.requires) is) in let fails = c.if-applies.false in cc) in
    below_more _ _ c.loop-k.invariant (passed_there h.model c.args.keep.now c.args.trail.now.state h.nogoods c.loop-k.k c.watched-item.result.nogood at none)

pub returns : goal.returns
returns c =
    let h = c.args.self.now in
    let same : map (λ w. w.nogood) c.deref-watched-items.result.now ≡ h.nogoods =
    ap (map (λ w. w.nogood)) c.deref-watched-items.ensures.value ∙ ap (λ h. h.nogoods) c.self.view_is in
    let long : length h.nogoods ≡ length c.deref-watched-items.result.now = ap length (sym same) ∙ length-map c.deref-watched-items.result.now (λ w. w.nogood) in
    none_applies h.model c.args.keep.now c.args.trail.now.state h.nogoods c.loop-k.k c.loop-k.invariant (omega (arith, long, c.loop-k-test.false))
