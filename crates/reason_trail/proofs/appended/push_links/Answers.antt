use Rattle.std.proofs.Common.{◌++◌, ◌∙◌, ap, map}
use Rattle.config_value.specs.declared.literal.Literal.TheVariants.{NotLinked}
use Rattle.reason_trail.proofs.InTurn.{two_added, two_joined, ok_then}
use Rattle.reason_trail.proofs.Members.{lacked}
use Rattle.reason_trail.proofs.appended.push_links.Goals as goal

pub returns-clause-described : goal.returns-clause-described
returns-clause-described c =
    ok_then _ _ (λ pushed.
    two_joined c.args.into.now c.push_not_linked.new.into c.push-2.new.self _ _
    (two_joined c.args.into.now c.push_linked.new.into c.push_not_linked.new.into _ _ c.in_ok-push_linked.ensures.described
    (c.in_ok-push_not_linked.ensures.described
    ∙ ap (λ js. c.push_linked.new.into ++ map (λ j. NotLinked c.args.i c.args.port j) js) (lacked c.args.links.now.possible c.args.made)))
    (two_added c.push_not_linked.new.into c.push.new.self c.push-2.new.self _ _ c.in_ok-push.ensures.pushed pushed)) c.push-2.result c.push-2.ensures.pushed
