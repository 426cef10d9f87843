use Rattle.std.proofs.Common.{◌≡◌, length, map, arith, ap, sym, refl, subst, ◌+◌, ◌∙◌}
use Rattle.std.proofs.lemmas.List.{length-map}
use Rattle.std.proofs.lemmas.Option.{slice_get_read}
use Rattle.prod_model.specs.Forest.{line}
use Rattle.type_taxonomy.specs.steps.Entries.{named, new_of}
use Rattle.type_taxonomy.specs.steps.TypeForest.{HasRows}
use Rattle.type_taxonomy.proofs.Items.{length_table, table_row, table_map_row}
use Rattle.type_taxonomy.proofs.Filling.{IsFilled, row_done, fill_more, fill_past, parent_within}
use Rattle.type_taxonomy.proofs.rows.fill.Goals as goal
use Rattle.type_taxonomy.proofs.rows.fill.Goals.{then-len-members+in_ok-row, else-len-members}

pub bounds-lines-t : goal.bounds-lines-t
bounds-lines-t g c = omega (arith, length_table (line c.args.types.now) c.args.lines.now (length c.args.types.now) c.requires.lines)

pub bounds-new-t : goal.bounds-new-t
bounds-new-t g c =
    let it = g.D.Declaration in
    omega (
      arith,
      length-map c.args.new.now (map (named it.name_of)),
      length_table (new_of it.declared it.name_of c.args.types.now) (map (map (named it.name_of)) c.args.new.now) (length c.args.types.now) c.requires.new,
    )

pub row_of-requires : goal.row_of-requires
row_of-requires g c =
    let is_type = slice_get_read c.args.types.now _ c.loop-t.t c.index-types-t.result refl c.loop-t-test.true c.index-types-t.is in
    parent_within c.args.types.now c.loop-t.t (length c.as_slice.result.now) c.index-types-t.result c.index-types-t.result.parent c.requires.forest is_type refl
    (ap length c.as_slice.ensures ∙ c.loop-t.invariant.each)

pub loop-t-preserved : goal.loop-t-preserved
loop-t-preserved g c =
    let it = g.D.Declaration in
    let types = c.args.types.now in
    let t = c.loop-t.t in
    let is_line = table_row (line types) c.args.lines.now (length types) t c.index-lines-t.result c.requires.lines c.loop-t-test.true c.index-lines-t.is in
    let size : c.len.result ≡ length (line types t) = c.len.ensures ∙ ap length is_line in
    elim c.if-len-members.branch [
      | then-len-members+in_ok-row w ↦
          let d = w.index-types-t.result in
          let is_type = slice_get_read types _ t d refl c.loop-t-test.true w.index-types-t.is in
          let is_new = table_map_row (map (named it.name_of)) (new_of it.declared it.name_of types) c.args.new.now (length types) t w.index-new-t.result c.requires.new c.loop-t-test.true w.index-new-t.is in
          let is_row = rw (w.as_slice.ensures, w.as_slice-then-len-members.ensures) at (w.in_ok-row.ensures {u = tt}) in
          let is_length : length (line types t) ≡ c.args.members = sym size ∙ w.if-len-members.true in
          let done = row_done it.declared it.name_of types c.args.members t d c.loop-t.rows w.in_ok-row.row w.index-new-t.result c.requires.forest c.loop-t.invariant c.loop-t-test.true
          is_type is_length is_new is_row in
          subst (HasRows it.declared it.name_of types (IsFilled types c.args.members (t + 1))) (sym (w.rows-is ∙ w.set.ensures))
          (fill_more it.declared it.name_of types c.args.members t c.loop-t.rows w.in_ok-row.row c.loop-t.invariant c.loop-t-test.true done)
      | else-len-members w ↦
          subst (HasRows it.declared it.name_of types (IsFilled types c.args.members (t + 1))) (sym w.rows-is)
          (fill_past it.declared it.name_of types c.args.members t c.loop-t.rows c.loop-t.invariant (λ same. w.if-len-members.false (size ∙ same)))
    ]
