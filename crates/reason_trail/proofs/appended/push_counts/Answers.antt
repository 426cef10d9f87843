use Rattle.std.proofs.Common.{◌+◌, ◌∷◌, ◌++◌, [], ◌∙◌, ap₂, arith}
use Rattle.config_value.specs.declared.literal.Literal.TheVariants.{LinksAtLeast, LinksAtMost}
use Rattle.partial_state.specs.Masks.{instances_of}
use Rattle.reason_trail.proofs.InTurn.{two_added, ok_then, err_then, begins_longer}
use Rattle.reason_trail.proofs.Members.{few_members}
use Rattle.reason_trail.proofs.appended.push_counts.Goals as goal

-- both numbers are at most 256
pub overflow_add-count : goal.overflow_add-count
overflow_add-count c = omega (arith, few_members c.args.links.now.required, c.count.ensures, c.requires.few, c.requires.formed.ordered)

pub overflow_add-count-2 : goal.overflow_add-count-2
overflow_add-count-2 c = omega (arith, few_members c.args.links.now.possible, c.count-2.ensures, c.requires.few)

pub returns-clause-described : goal.returns-clause-described
unfolding instances_of
returns-clause-described c =
    ok_then _ _ (λ pushed.
    two_added c.args.into.now c.push.new.self c.push-2.new.self _ _ c.in_ok-push.ensures.pushed pushed
    ∙ ap₂ (λ m n. c.args.into.now ++ LinksAtLeast c.args.i c.args.port (m + c.args.links.now.fresh_low) ∷ LinksAtMost c.args.i c.args.port (n + c.args.links.now.fresh_high) ∷ [])
    c.count.ensures c.count-2.ensures) c.push-2.result c.push-2.ensures.pushed

pub returns-clause-begun : goal.returns-clause-begun
returns-clause-begun c =
    err_then _ _ (λ same. begins_longer c.args.into.now _ c.push-2.new.self (same ∙ c.in_ok-push.ensures.pushed)) c.push-2.result c.push-2.ensures.unchanged
