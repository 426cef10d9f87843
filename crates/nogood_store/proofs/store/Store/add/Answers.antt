use Rattle.std.proofs.Common.{◌<◌, ◌≤◌, length, sym, subst, arith}
use Rattle.literal_book.specs.Nogoods.{IsSound}
use Rattle.nogood_store.specs.Stores.{most_nogoods, most_literals}
use Rattle.nogood_store.proofs.Stored.{store_more}
use Rattle.nogood_store.proofs.store.Store.add.Goals as goal

-- one more is held, which is sound and short, and is found where it is watched
pub invariant_of-self-2 : goal.invariant_of-self-2
invariant_of-self-2 c =
    let k = c.self.inside in
    let n = c.args.n in
    let new = c.add.new.self in
    let shelf = c.in_ok-add.ensures.shelf in
    let sound : IsSound k.problem k.order n = subst (λ h. IsSound h.model h.order n) (sym c.self.view_is) c.requires in
    let short : length n.literals ≤ most_literals = omega (arith, c.if-len-gt-MOST_LITERALS.false, c.len.ensures) in
    let room : length k.shelf.nogoods.items < most_nogoods = omega (arith, c.if-len-ge-MOST_NOGOODS.false, c.len-2.ensures) in
    record {
      store = store_more k.problem k.order k.shelf.nogoods.items new.nogoods.items n k.shelf.looked new.looked c.self.invariant.store c.in_ok-add.ensures.added sound short room shelf.watched;
      shelf = shelf;
    }
