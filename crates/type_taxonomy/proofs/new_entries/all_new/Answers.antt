use Rattle.std.proofs.Common.{◌≡◌, ◌≤◌, ◌^◌, length, map, arith, ap, refl, ◌∙◌, drop}
use Rattle.std.specs.List.{filter}
use Rattle.std.proofs.lemmas.Option.{slice_get_read}
use Rattle.prod_model.specs.Forest.{line}
use Rattle.prod_model.specs.Taxonomy.{first_id, new_declarations}
use Rattle.type_taxonomy.specs.steps.Entries.{named, is_new_among, numbered, new_of}
use Rattle.type_taxonomy.proofs.Items.{length_table, table_row, table_map_more, sum_by_take_le, sum_by_next_lt}
use Rattle.type_taxonomy.proofs.NewEntries.{length_new, length_new_le, next_id_lt, new_of_type, first_id_more}
use Rattle.type_taxonomy.proofs.new_entries.all_new.Goals as goal

pub bounds-lines-t : goal.bounds-lines-t
bounds-lines-t g c = omega (arith, length_table (line c.args.types.now) c.args.lines.now (length c.args.types.now) c.requires.lines)

pub new_in-requires : goal.new_in-requires
new_in-requires g c =
    sum_by_next_lt (λ d. length (g.D.Declaration.declared d)) c.args.types.now c.loop-t.t c.loop-t.next (2 ^ 32) c.index-types-t.result c.loop-t-test.true c.index-types-t.is
    c.loop-t.invariant.few c.requires.few

pub id_after-next-requires : goal.id_after-next-requires
id_after-next-requires g c =
    let it = g.D.Declaration in
    let is_new = is_new_among it.declared it.name_of c.args.types.now (drop 1 c.as_slice.result.now) in
    next_id_lt it.declared it.name_of c.args.types.now c.loop-t.t c.loop-t.next (2 ^ 32) c.index-types-t.result is_new c.in_ok-row.row c.len.result c.loop-t-test.true c.index-types-t.is
    c.loop-t.invariant.few c.requires.few c.len.ensures c.in_ok-row.ensures

pub loop-t-preserved : goal.loop-t-preserved
loop-t-preserved g c =
    let it = g.D.Declaration in
    let types = c.args.types.now in
    let t = c.loop-t.t in
    let kind = c.index-types-t.result in
    let is_type = slice_get_read types _ t kind refl c.loop-t-test.true c.index-types-t.is in
    let is_line = c.as_slice.ensures ∙ table_row (line types) c.args.lines.now (length types) t c.index-lines-t.result c.requires.lines c.loop-t-test.true c.index-lines-t.is in
    let fresh = filter (is_new_among it.declared it.name_of types (drop 1 c.as_slice.result.now)) (it.declared kind) in
    let is_new : fresh ≡ new_declarations it.declared it.name_of types t = new_of_type it.declared it.name_of types t kind c.as_slice.result.now is_type is_line in
    let size : c.len.result ≡ length fresh = c.len.ensures ∙ length_new it.declared it.name_of c.loop-t.next fresh c.in_ok-row.row c.in_ok-row.ensures in
    let few : c.len.result ≤ length (it.declared kind) =
    length_new_le it.declared it.name_of c.loop-t.next (is_new_among it.declared it.name_of types (drop 1 c.as_slice.result.now)) (it.declared kind) c.in_ok-row.row c.len.result
    c.len.ensures c.in_ok-row.ensures in
    let row : map (named it.name_of) c.in_ok-row.row ≡ new_of it.declared it.name_of types t =
    c.in_ok-row.ensures ∙ ap (λ k. numbered it.declared it.name_of k fresh) c.loop-t.invariant.next ∙ ap (numbered it.declared it.name_of (first_id it.declared it.name_of types t)) is_new in
    record {
      rows = table_map_more (map (named it.name_of)) (new_of it.declared it.name_of types) c.loop-t.rows c.push.new.self t c.in_ok-row.row c.loop-t.invariant.rows c.in_ok-push.ensures.ok row;
      next = c.id_after-next.ensures ∙ first_id_more it.declared it.name_of types t c.loop-t.next c.len.result c.loop-t.invariant.next (size ∙ ap length is_new);
      few = omega (arith, c.id_after-next.ensures, sum_by_take_le (λ d. length (it.declared d)) types t kind c.loop-t.next c.len.result c.loop-t-test.true c.index-types-t.is c.loop-t.invariant.few few);
    }
