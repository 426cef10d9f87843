use Rattle.std.proofs.Common.{◌∙◌, ◌++◌, ap, arith}
use Rattle.partial_state.specs.Masks.{instances_of}
use Rattle.instance_set.proofs.Walks.{member_low}
use Rattle.partial_state.proofs.MembersInTurn.{members_from, from_start, taken_next, taken_all}
use Rattle.partial_state.proofs.left.members.Goals as goal

pub loop-j-init : goal.loop-j-init
loop-j-init c = (
  ap (λ js. js ++ members_from c.args.set.now 0) c.in_ok-members.ensures.items ∙ from_start c.args.set.now,
  omega arith,
)

pub loop-j-preserved : goal.loop-j-preserved
loop-j-preserved c =
    let low = member_low c.args.set.now c.in-Some.j c.in-Some.ensures.1 in (
      taken_next c.args.set.now c.loop-j.from c.in-Some.j c.loop-j.members.items _ (instances_of c.args.set.now) c.in-Some.ensures c.in_ok-push.ensures.items c.loop-j.invariant.0,
      omega arith,
    )

pub returns : goal.returns
returns c = c.from_vec.ensures ∙ taken_all c.args.set.now c.loop-j.from c.loop-j.members.items (instances_of c.args.set.now) c.in_default.ensures c.loop-j.invariant.0
