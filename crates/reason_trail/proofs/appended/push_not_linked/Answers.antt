use Rattle.std.proofs.Common.{not, ap, arith}
use Rattle.config_value.specs.declared.literal.Literal.TheVariants.{NotLinked}
use Rattle.instance_set.specs.InstanceSets.{is_member}
use Rattle.reason_trail.proofs.InTurn.{tells_none, tells_next, tells_all}
use Rattle.reason_trail.proofs.appended.push_not_linked.Goals as goal

pub loop-j-init : goal.loop-j-init
loop-j-init c = tells_none (λ k. NotLinked c.args.i c.args.port k) (λ k. not (is_member c.args.set.now k)) c.args.into.now

pub loop-j-preserved : goal.loop-j-preserved
loop-j-preserved c =
    tells_next (λ k. NotLinked c.args.i c.args.port k) (λ k. not (is_member c.args.set.now k)) c.loop-j.j c.args.into.now c.loop-j.into _ (not c.contains-excluded.result)
    (ap not c.contains-excluded.ensures) c.in_ok-push_where.ensures.described c.loop-j.invariant

pub returns-clause-described : goal.returns-clause-described
returns-clause-described c =
    tells_all (λ k. NotLinked c.args.i c.args.port k) (λ k. not (is_member c.args.set.now k)) c.loop-j.j c.args.made c.args.into.now c.loop-j.into
    (omega (arith, c.loop-j.auto.j-end, c.loop-j-test.false)) c.loop-j.invariant
