use Rattle.std.proofs.Common.{◌≡◌, ◌+◌, length, map, drop, arith, ap, ◌∙◌}
use Rattle.type_taxonomy.specs.steps.Entries.{named, is_new_among}
use Rattle.type_taxonomy.proofs.AboveLaws.{new_told}
use Rattle.type_taxonomy.proofs.Items.{length_push_le}
use Rattle.type_taxonomy.proofs.NewEntries.{numbered_more, numbered_same}
use Rattle.type_taxonomy.proofs.new_entries.new_in.Goals as goal
use Rattle.type_taxonomy.proofs.new_entries.new_in.Goals.{then-is_free+in_ok-push, else-is_free}

pub loop-declared-preserved : goal.loop-declared-preserved
loop-declared-preserved g c =
    let it = g.D.Declaration in
    let so_far = c.loop-declared.invariant in
    let d = c.declared-item.result in
    let is_new = is_new_among it.declared it.name_of c.args.types.now (drop 1 c.args.line.now) in
    let told : is_new d ≡ c.is_free.result =
    new_told it.declared it.name_of c.args.types.now (drop 1 c.args.line.now) c.in_ok-above.above d c.name.result.now c.is_free.result c.in_ok-above.ensures c.name.ensures c.is_free.ensures in
    elim c.if-is_free.branch [
      | then-is_free+in_ok-push w ↦
          let pushed = w.row-is ∙ w.in_ok-push.ensures.ok in
          record {
            of_type = so_far.of_type;
            few = length_push_le _ _ _ _ so_far.few pushed;
            row = numbered_more it.declared it.name_of c.args.first_id is_new c.all_of-declared-items.result.now c.loop-declared.declared-index c.loop-declared.row c.if-is_free.row _
                c.loop-declared-test.true c.declared-item.is (told ∙ w.if-is_free.true) (ap (λ k. c.args.first_id + k) w.len.ensures) so_far.row pushed;
          }
      | else-is_free w ↦ record {
        of_type = so_far.of_type;
        few = omega (arith, ap length w.row-is, so_far.few);
        row = ap (map (named it.name_of)) w.row-is
            ∙ numbered_same it.declared it.name_of c.args.first_id is_new c.all_of-declared-items.result.now c.loop-declared.declared-index c.loop-declared.row _
            c.loop-declared-test.true c.declared-item.is (told ∙ w.if-is_free.false) so_far.row;
      }
    ]
