use Rattle.std.proofs.Common.{rules, ◌≡◌, [], ◌∷◌, ◌++◌, length, ◌≤◌, refl, sym, ap, ◌∙◌, subst}
use Rattle.literal_book.specs.declared.nogood.Nogood.{Nogood}
use Rattle.nogood_store.specs.Stores.{IsWatched, most_literals}
use Rattle.nogood_store.specs.steps.Shelves.{IsFound}
use Rattle.nogood_store.proofs.Shelves.{shelf_added, shelf_kept}
use Rattle.nogood_store.proofs.shelf.Shelf.add.Goals as goal

pub returns-in_err-make_rooms-clause-shelf : goal.returns-in_err-make_rooms-clause-shelf
returns-in_err-make_rooms-clause-shelf c = shelf_kept c.args.self.now _ c.requires.shelf c.make_rooms.ensures (λ i p at. at) refl

pub returns-in_err-place-clause-shelf : goal.returns-in_err-place-clause-shelf
returns-in_err-place-clause-shelf c =
    shelf_kept c.args.self.now c.place.new.self c.requires.shelf (λ l n at. c.place.ensures.kept l n (c.make_rooms.ensures l n at))
    c.place.ensures.bare (ap (λ v. v.items) c.place.ensures.nogoods)

pub returns-in_err-push-clause-shelf : goal.returns-in_err-push-clause-shelf
returns-in_err-push-clause-shelf c =
    let same : c.push.new.self.items ≡ c.place.new.self.nogoods.items = search rules in
    shelf_kept c.args.self.now _ c.requires.shelf (λ l n at. c.place.ensures.kept l n (c.make_rooms.ensures l n at))
    c.place.ensures.bare (same ∙ ap (λ v. v.items) c.place.ensures.nogoods)

-- the nogood that was put in is found
pub returns-clause-shelf : goal.returns-clause-shelf
returns-clause-shelf c =
    let w = c.new.result in
    let long : c.len-k.result ≡ length c.args.self.now.nogoods.items = search rules in
    let pushed : c.push.new.self.items ≡ c.place.new.self.nogoods.items ++ w ∷ [] = search rules in
    let placed : IsFound c.place.new.self c.len-k.result c.as_slice-2.result.now = c.in_ok-place.ensures.placed in
    shelf_added c.args.self.now _ c.requires.shelf (λ l n at. c.place.ensures.kept l n (c.make_rooms.ensures l n at))
    c.place.ensures.bare w (pushed ∙ ap (λ v. v.items ++ w ∷ []) c.place.ensures.nogoods)
    (subst (λ (g : Nogood). IsWatched g w.watch) (sym c.new.ensures.nogood) c.new.ensures.watched)
    (subst (λ (g : Nogood). length g.literals ≤ most_literals) (sym c.new.ensures.nogood) c.requires.short)
    (subst (λ (g : Nogood). IsFound c.place.new.self (length c.args.self.now.nogoods.items) g.literals) (sym c.new.ensures.nogood)
    (subst (IsFound c.place.new.self (length c.args.self.now.nogoods.items)) c.as_slice-2.ensures
    (subst (λ k. IsFound c.place.new.self k c.as_slice-2.result.now) long placed)))
