use Rattle.std.proofs.Common.{◌∙◌, ap}
use Rattle.type_taxonomy.specs.steps.ByName.{found, found_at}
use Rattle.type_taxonomy.proofs.RowLaws.{named_narrowed, narrowed_more}
use Rattle.type_taxonomy.proofs.rows.narrowed.Goals as goal

pub loop-e-preserved : goal.loop-e-preserved
loop-e-preserved g c =
    let it = g.D.Declaration in
    let e = c.e-item.result in
    let ds = it.declared c.args.decl.now in
    let name = it.name_of e.declared.now in
    narrowed_more it.declared it.name_of ds c.args.inherited.now c.loop-e.e-index c.loop-e.row c.push.new.self e c.kept.result
    c.loop-e-test.true c.e-item.is
    (named_narrowed it.declared it.name_of ds e c.kept.result (found c.in_ok-declared.declared name) c.kept.ensures.id c.kept.ensures.declared
    (c.in_ok-declared.ensures name ∙ ap (λ l. found_at it.name_of 1 l name) c.all_of.ensures))
    c.loop-e.invariant c.in_ok-push.ensures.ok
