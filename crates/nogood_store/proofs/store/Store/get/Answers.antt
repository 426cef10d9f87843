use Rattle.std.proofs.Common.{◌≡◌, map, length, ap, subst, arith}
use Rattle.std.proofs.lemmas.List.{length-map}
use Rattle.literal_book.specs.Nogoods.{IsSound}
use Rattle.nogood_store.proofs.Kept.{at_kept}
use Rattle.nogood_store.proofs.store.Store.get.Goals as goal

pub returns-clause-sound : goal.returns-clause-sound
returns-clause-sound c =
    let k = c.self.inside in
    let w = c.index.result.now in
    let n = c.args.n in
    let long : length k.shelf.nogoods.items ≡ length c.args.self.now.nogoods =
    let e = length-map k.shelf.nogoods.items (λ w. w.nogood) in let f = ap (λ h. length h.nogoods) c.self.view_is in cc in
    let sound = c.self.invariant.store.sound n w.nogood (at_kept k.shelf.nogoods.items (map (λ w. w.nogood) k.shelf.nogoods.items) n w (λ i. map (λ w. w.nogood) k.shelf.nogoods.items) (omega (arith, long, c.requires)) c.index.ensures) in
    subst (λ h. IsSound h.model h.order w.nogood) c.self.view_is sound
