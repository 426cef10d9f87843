use Rattle.std.proofs.Common.{rules, ◌<◌, length, refl, sym, ◌∙◌, subst, inl, inr}
use Rattle.std.proofs.lemmas.Option.{slice_get_read}
use Rattle.base_laws.specs.Places.{IsAt}
use Rattle.nogood_store.specs.declared.watched.Watched.{Watched}
use Rattle.nogood_store.specs.Stores.{IsWatched}
use Rattle.nogood_store.proofs.Shelves.{map_set, set_at, watch_shifted}
use Rattle.nogood_store.proofs.shelf.Shelf.shift.Goals as goal

pub returns-then-shift-clause-kept : goal.returns-then-shift-clause-kept
returns-then-shift-clause-kept c =
    let items = c.args.self.now.nogoods.items in
    let x = c.in-Some.watched.now in
    let within : c.args.n < length items = search rules in
    let at : IsAt items c.args.n x = slice_get_read items _ c.args.n x refl within c.in-Some.ensures.value in
    let literal : IsAt x.nogood.literals c.args.place c.in-Some-literal_at.l = sym c.literal_at.ensures ∙ c.in-Some-literal_at.is in
    watch_shifted c.args.self.now _ c.args.k c.args.at c.args.n c.args.place x c.in-Some-literal_at.l c.requires.there at literal
    c.shift.ensures.moved c.shift.ensures.literals refl refl
    (map_set (λ (w : Watched). w.nogood) items c.args.n x c.watch_at.new.self at c.watch_at.ensures.nogood)
    (λ is j y stands. elim (set_at items c.args.n c.watch_at.new.self j y stands) [
      | inl new ↦ subst (λ (w : Watched). IsWatched w.nogood w.watch) new c.watch_at.ensures.watched
      | inr old ↦ is.watched j y old
    ])

pub returns-else-shift-clause-kept : goal.returns-else-shift-clause-kept
returns-else-shift-clause-kept c =
    let items = c.args.self.now.nogoods.items in
    let x = c.in-Some.watched.now in
    let within : c.args.n < length items = search rules in
    let at : IsAt items c.args.n x = slice_get_read items _ c.args.n x refl within c.in-Some.ensures.value in
    let literal : IsAt x.nogood.literals c.args.place c.in-Some-literal_at.l = sym c.literal_at.ensures ∙ c.in-Some-literal_at.is in
    watch_shifted c.args.self.now _ c.args.k c.args.at c.args.n c.args.place x c.in-Some-literal_at.l c.requires.there at literal
    c.shift.ensures.moved c.shift.ensures.literals refl refl
    (map_set (λ (w : Watched). w.nogood) items c.args.n x x at refl)
    (λ is j y stands. elim (set_at items c.args.n x j y stands) [
      | inl new ↦ subst (λ (w : Watched). IsWatched w.nogood w.watch) new (is.watched c.args.n x at)
      | inr old ↦ is.watched j y old
    ])
