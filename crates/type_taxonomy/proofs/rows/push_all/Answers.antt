use Rattle.type_taxonomy.proofs.RowLaws.{push_more}
use Rattle.type_taxonomy.proofs.rows.push_all.Goals as goal

pub loop-e-preserved : goal.loop-e-preserved
loop-e-preserved g c = push_more c.args.row.now c.loop-e.row _ c.args.new.now c.loop-e.e-index _ c.loop-e-test.true c.e-item.is c.loop-e.invariant c.in_ok-push.ensures.ok
