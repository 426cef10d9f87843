use Rattle.std.proofs.Common.{ap, sym, subst, ◌∙◌}
use Rattle.nogood_store.specs.Stores.{IsFirstApplying}
use Rattle.nogood_store.specs.steps.Shelves.{nogoods_of}
use Rattle.nogood_store.proofs.Stored.{store_moved}
use Rattle.nogood_store.proofs.store.Store.find.Goals as goal

-- the nogoods are the same, and each is found where it is watched now
pub invariant_of-self : goal.invariant_of-self
invariant_of-self c =
    let k = c.self.inside in
    let new = c.find.new.self in
    let shelf = c.find.ensures.kept.shelf c.self.invariant.shelf in
    record {
      store = store_moved k.problem k.order k.shelf.nogoods.items new.nogoods.items k.shelf.looked new.looked c.self.invariant.store c.find.ensures.kept.nogoods shelf.watched;
      shelf = shelf;
    }

pub returns-clause-first : goal.returns-clause-first
returns-clause-first c =
    let k = c.self.inside in
    let keep = c.args.keep.now in
    let s = c.args.trail.now.state in
    let model = c.requires ∙ sym (ap (λ h. h.model) c.self.view_is) in
    subst (λ h. IsFirstApplying h.model keep s h.nogoods c.find.result) c.self.view_is
    (subst (λ m. IsFirstApplying m keep s (nogoods_of k.shelf) c.find.result) model c.find.ensures.first)
