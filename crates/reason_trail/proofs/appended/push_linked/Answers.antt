use Rattle.std.proofs.Common.{◌++◌, map, ap, arith}
use Rattle.config_value.specs.declared.literal.Literal.TheVariants.{Linked}
use Rattle.instance_set.proofs.Walks.{member_low}
use Rattle.partial_state.proofs.MembersInTurn.{from_start, from_last, from_next}
use Rattle.reason_trail.proofs.InTurn.{begins_self, begins_longer, begins_on, left_next, left_none}
use Rattle.reason_trail.proofs.appended.push_linked.Goals as goal

pub loop-j-init : goal.loop-j-init
loop-j-init c = (
  ap (λ js. c.args.into.now ++ map (λ k. Linked c.args.i c.args.port k) js) (from_start c.args.set.now),
  begins_self c.args.into.now,
  omega arith,
)

pub loop-j-smaller : goal.loop-j-smaller
loop-j-smaller c =
    let low = member_low c.args.set.now c.in-Some.j c.in-Some.ensures.1 in let late = c.in-Some.ensures.0 in omega (arith, low, late)

pub loop-j-preserved : goal.loop-j-preserved
loop-j-preserved c =
    let low = member_low c.args.set.now c.in-Some.j c.in-Some.ensures.1 in (
      left_next (Linked c.args.i c.args.port c.in-Some.j) c.loop-j.into _ _ _ _ c.in_ok-push.ensures.pushed (ap (map (λ k. Linked c.args.i c.args.port k)) (from_next c.args.set.now c.loop-j.from c.in-Some.j c.in-Some.ensures)) c.loop-j.invariant.0,
      begins_on c.args.into.now c.loop-j.into _ c.loop-j.invariant.1 (begins_longer c.loop-j.into _ _ c.in_ok-push.ensures.pushed),
      omega (arith, low),
    )

pub returns-clause-described : goal.returns-clause-described
returns-clause-described c = left_none c.loop-j.into _ _ (ap (map (λ k. Linked c.args.i c.args.port k)) (from_last c.args.set.now c.loop-j.from c.in_default.ensures)) c.loop-j.invariant.0
