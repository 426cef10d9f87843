use Rattle.std.proofs.Common.{rules, ◌<◌, length, refl}
use Rattle.base_laws.specs.Places.{IsAt}
use Rattle.std.proofs.lemmas.Option.{slice_get_read}
use Rattle.nogood_store.proofs.Watches.{none_taken, rows_set, taken_out}
use Rattle.nogood_store.proofs.watchers.take_out.Goals as goal

pub returns-then-at-len : goal.returns-then-at-len
returns-then-at-len c =
    let within : c.args.k < length c.args.rows.now.items = search rules in
    let was : IsAt c.args.rows.now.items c.args.k c.in-Some.row.now =
    slice_get_read c.args.rows.now.items _ c.args.k c.in-Some.row.now refl within c.in-Some.ensures.value in
    let below : c.args.at < length c.in-Some.row.now.numbers.items = search rules in
    taken_out c.args.k c.args.at c.args.rows.now.items c.in-Some.row.now _ was below (record {
      len = search rules;
      last = λ d more. search rules;
      same = λ k d apart more. search rules;
    })

pub returns-else-at-len : goal.returns-else-at-len
returns-else-at-len c =
    let within : c.args.k < length c.args.rows.now.items = search rules in
    let was : IsAt c.args.rows.now.items c.args.k c.in-Some.row.now =
    slice_get_read c.args.rows.now.items _ c.args.k c.in-Some.row.now refl within c.in-Some.ensures.value in
    none_taken c.args.k c.args.at _ _ (rows_set c.args.rows.now.items c.args.k c.in-Some.row.now _ was (λ i n there. there))
