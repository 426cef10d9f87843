use Rattle.std.proofs.Common.{◌≡◌, ◌+◌, ◌<◌, length, subst, sym, arith}
use Rattle.prod_model.specs.Forest.{line}
use Rattle.type_taxonomy.specs.steps.TypeForest.{HasRows}
use Rattle.type_taxonomy.proofs.Filling.{lines_within, all_filled}
use Rattle.type_taxonomy.proofs.rows.all_rows.Goals as goal
use Rattle.type_taxonomy.proofs.rows.all_rows.Goals.{else-loop-members-test, then-loop-members-test+in_ok-fill+else-members-members-end}

pub returns : goal.returns
returns g c =
    let it = g.D.Declaration in
    let types = c.args.types.now in
    let depth = c.depth-members-end.result in
    let within = lines_within types c.args.lines.now depth c.requires.lines c.depth-members-end.ensures.longest in
    elim c.loop-members-test.branch [
      | else-loop-members-test w ↦ absurd (omega arith)
      | then-loop-members-test+in_ok-fill+else-members-members-end w ↦
          let last : c.loop-members.members ≡ depth = omega arith in
          let filled = subst (λ k. HasRows it.declared it.name_of types (λ t. length (line types t) < k + 1) w.fill.new.rows) last (w.in_ok-fill.ensures {u = tt}) in
          all_filled it.declared it.name_of types c.loop-members-test.rows depth within
          (subst (HasRows it.declared it.name_of types (λ t. length (line types t) < depth + 1)) (sym w.rows-is) filled)
    ]
