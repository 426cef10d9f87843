use Rattle.std.proofs.Common.{rules, ◌≡◌, ◌<◌, [], ◌∷◌, ◌++◌, length, Some, refl, sym, subst}
use Rattle.std.specs.Prelude.{slice_get}
use Rattle.std.proofs.lemmas.Option.{slice_get_read}
use Rattle.base_laws.specs.Places.{IsAt}
use Rattle.base_laws.proofs.Places.{slice_get_middle}
use Rattle.nogood_store.proofs.Watches.{KeepsPlaces, rows_set, row_written, places_pushed}
use Rattle.nogood_store.proofs.watchers.put_in.Goals as goal

pub returns-clause-kept : goal.returns-clause-kept
returns-clause-kept c =
    let within : c.args.k < length c.args.rows.now.items = search rules in
    let was : IsAt c.args.rows.now.items c.args.k c.in-Some.row.now =
    slice_get_read c.args.rows.now.items _ c.args.k c.in-Some.row.now refl within c.in-Some.ensures.value in
    let kept : KeepsPlaces c.in-Some.row.now.numbers.items c.push.new.self.items =
    places_pushed _ _ c.args.n _ c.push.ensures.items in
    rows_set c.args.rows.now.items c.args.k c.in-Some.row.now _ was kept

pub returns-clause-put : goal.returns-clause-put
returns-clause-put c ok =
    let within : c.args.k < length c.args.rows.now.items = search rules in
    let items : c.push.new.self.items ≡ c.in-Some.row.now.numbers.items ++ c.args.n ∷ [] = search rules in (
      length c.in-Some.row.now.numbers.items,
      row_written c.args.rows.now.items c.args.k _ _ c.args.n within
          (subst (λ ns. slice_get ns (length c.in-Some.row.now.numbers.items) ≡ Some c.args.n) (sym items)
          (slice_get_middle c.in-Some.row.now.numbers.items c.args.n [])),
    )
