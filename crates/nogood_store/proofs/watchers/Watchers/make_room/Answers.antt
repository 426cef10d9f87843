use Rattle.std.proofs.Common.{rules, ◌<◌, length, refl, sym, subst}
use Rattle.base_laws.specs.Places.{IsAt}
use Rattle.std.proofs.lemmas.Option.{slice_get_read}
use Rattle.nogood_store.proofs.Watches.{kept_watches, rows_set}
use Rattle.nogood_store.proofs.watchers.Watchers.make_room.Goals as goal

pub returns : goal.returns
returns c =
    let within : c.in_ok-k.k < length c.row_of.new.self.rows.items = search rules in
    let was : IsAt c.row_of.new.self.rows.items c.in_ok-k.k c.in-Some.row.now =
    slice_get_read c.row_of.new.self.rows.items _ c.in_ok-k.k c.in-Some.row.now refl within c.in-Some.ensures.value in
    λ l n at.
    kept_watches c.row_of.new.self _ (λ i x at. at)
    (rows_set c.row_of.new.self.rows.items c.in_ok-k.k c.in-Some.row.now _ was
    (λ i n there. subst (λ ns. IsAt ns i n) (sym c.make_room.ensures) there)) l n (c.row_of.ensures l n at)
