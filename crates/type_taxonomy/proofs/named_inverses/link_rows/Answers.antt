use Rattle.std.proofs.Common.{arith}
use Rattle.type_taxonomy.specs.steps.PortSearch.{given}
use Rattle.type_taxonomy.proofs.LinkedPorts.{row_more}
use Rattle.type_taxonomy.proofs.named_inverses.link_rows.Goals as goal

pub loop-kind-preserved : goal.loop-kind-preserved
loop-kind-preserved c =
    row_more (given c.args.id c.args.inverse) c.args.rows.now c.loop-kind.rows c.link_row.new.rows c.loop-kind.kind (omega (arith, c.loop-kind-test.true, c.len-kind-end.ensures)) c.loop-kind.invariant c.link_row.ensures
