use Rattle.std.proofs.Common.{arith}
use Rattle.config_cli.proofs.CheckLaws.{first_unmet_here, none_unmet}
use Rattle.config_cli.proofs.check.first_unmet.Goals as goal

pub returns-then-not-meets : goal.returns-then-not-meets
returns-then-not-meets c =
    first_unmet_here c.args.problem.now c.args.order.now c.args.c.now c.loop-k.k c.meets.result c.loop-k.invariant c.meets.ensures c.if-not-meets.true
    (omega (arith, c.loop-k-test.true, c.len-k-end.ensures))

pub returns : goal.returns
returns c =
    none_unmet c.args.problem.now c.args.order.now c.args.c.now c.loop-k.k c.loop-k.invariant
    (omega (arith, c.loop-k-test.false, c.len-k-end.ensures))
