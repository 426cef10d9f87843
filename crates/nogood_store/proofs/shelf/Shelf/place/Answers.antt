use Rattle.std.proofs.Common.{rules, ◌≡◌, [], ◌∷◌, ◌++◌, length, Some, sym, ap, ◌∙◌, subst, inl, inr}
use Rattle.std.specs.Prelude.{option_copied, slice_get}
use Rattle.base_laws.specs.Places.{IsAt}
use Rattle.base_laws.proofs.Places.{slice_get_middle}
use Rattle.nogood_store.proofs.Watches.{places_pushed}
use Rattle.nogood_store.proofs.Shelves.{no_first}
use Rattle.nogood_store.proofs.shelf.Shelf.place.Goals as goal

-- it is watched at the first literal
pub returns-then-put-clause-placed : goal.returns-then-put-clause-placed
returns-then-put-clause-placed c =
    let there : IsAt c.args.literals.now 0 c.in-Some.l.now = sym c.first.ensures.value ∙ ap option_copied c.in-Some.is in
    inr (record {
      literal = c.in-Some.l.now;
      place = 0;
      there = there;
      watched = c.put.ensures.put c.if-put.true;
    })

pub returns-in_ok-push-in-None-clause-bare : goal.returns-in_ok-push-in-None-clause-bare
returns-in_ok-push-in-None-clause-bare c = places_pushed c.args.self.now.bare.items c.push.new.self.items c.args.k _ c.push.ensures.items

-- it is among the bare ones
pub returns-in_ok-push-in-None-clause-placed : goal.returns-in_ok-push-in-None-clause-placed
returns-in_ok-push-in-None-clause-placed c =
    let items : c.push.new.self.items ≡ c.args.self.now.bare.items ++ c.args.k ∷ [] = search rules in
    inl (
      no_first c.args.literals.now (sym c.first.ensures.value ∙ ap option_copied c.in-None.is),
      (
        length c.args.self.now.bare.items,
        subst (λ ns. slice_get ns (length c.args.self.now.bare.items) ≡ Some c.args.k) (sym items)
            (slice_get_middle c.args.self.now.bare.items c.args.k []),
      ),
    )
