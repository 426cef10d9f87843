-- A port must have more links than its type allows, or more later ones than are left.
use Rattle.std.proofs.Common.{◌≡◌, ◌+◌, ◌-◌, ◌<◌, [], ◌∷◌, length, ap, ap₂, sym, subst, ◌∙◌, arith}
use Rattle.std.specs.Prelude.{IsSome}
use Rattle.config_value.specs.declared.literal.Literal.TheVariants.{Kind, LinksAtLeast, FreshAtLeast}
use Rattle.state_space.specs.State.{number_made, port_at}
use Rattle.partial_state.specs.Masks.{instances_of}
use Rattle.partial_state.specs.Views.{state_of_port}
use Rattle.reason_trail.specs.Propagators.{IsFailure}
use Rattle.reason_trail.proofs.Members.{few_members}
use Rattle.type_narrowing.specs.steps.Narrowing.{resting_on}
use Rattle.type_narrowing.proofs.Failures.{answered}
use Rattle.type_narrowing.proofs.PortReasons.{links_there, few_later_ones, many_fail, later_fail}
use Rattle.type_narrowing.proofs.ports.port_failure.Goals as goal

pub port-links-requires : goal.port-links-requires
port-links-requires c =
    subst (λ s. IsSome (port_at s c.args.i c.args.port.now.id)) (sym c.state-2.ensures.state)
    (links_there c.args.trail.now.job c.args.trail.now.state c.args.i c.args.kind c.args.port.now c.job-task.ensures.right.task c.state.ensures.problem c.requires.sole c.requires.declared)

-- the required links are at most 256, and so are the later ones
pub overflow_add-count : goal.overflow_add-count
overflow_add-count c =
    let t = c.args.trail.now in
    let q = state_of_port c.port-links.result in
    let is = sym (ap (λ s. port_at s c.args.i c.args.port.now.id) c.state-2.ensures.state) ∙ c.port-links.ensures.links in
    let few = few_later_ones t.job t.state c.args.i c.args.kind c.args.port.now c.job-task.ensures.right.task c.state.ensures.problem c.requires.sole c.requires.declared q is in
    omega (arith, few, few_members c.port-links.result.required, c.required_count.ensures, c.port-links.ensures.formed.ordered)

pub returns-then-port-count : goal.returns-then-port-count
unfolding instances_of
returns-then-port-count c =
    let t = c.args.trail.now in
    let q = state_of_port c.port-links.result in
    let is = sym (ap (λ s. port_at s c.args.i c.args.port.now.id) c.state-2.ensures.state) ∙ c.port-links.ensures.links in
    let count : c.required_count.result + c.port-links.result.fresh_low ≡ length q.required + q.fresh_low = ap (λ n. n + q.fresh_low) c.required_count.ensures in
    answered t c.failed.result (Kind c.args.i c.args.kind ∷ LinksAtLeast c.args.i c.args.port.now.id (c.required_count.result + c.port-links.result.fresh_low) ∷ []) c.failed.ensures
    (subst (λ n. IsFailure t.job t.state (resting_on (Kind c.args.i c.args.kind ∷ LinksAtLeast c.args.i c.args.port.now.id n ∷ []))) (sym count)
    (many_fail t.job t.state c.args.i c.args.kind c.args.port.now c.job-task.ensures.right.task c.state.ensures.problem c.requires.sole c.requires.declared q is
    (subst (λ n. c.args.port.now.high < n) count c.if-port-count.true)))

pub returns-then-instances-made : goal.returns-then-instances-made
returns-then-instances-made c =
    let t = c.args.trail.now in
    let q = state_of_port c.port-links.result in
    let is = sym (ap (λ s. port_at s c.args.i c.args.port.now.id) c.state-2.ensures.state) ∙ c.port-links.ensures.links in
    let made = c.made-made.ensures ∙ ap number_made c.state.ensures.state in
    let left = ap₂ (λ a b. a - b) c.requires.instances made in
    answered t c.failed-then-instances-made.result (FreshAtLeast c.args.i c.args.port.now.id c.made-made.result q.fresh_low ∷ []) c.failed-then-instances-made.ensures
    (subst (λ n. IsFailure t.job t.state (resting_on (FreshAtLeast c.args.i c.args.port.now.id n q.fresh_low ∷ []))) (sym made)
    (later_fail t.job t.state c.args.i c.args.kind c.args.port.now c.job-task.ensures.right.task c.state.ensures.problem c.requires.sole c.requires.declared q is
    (subst (λ n. n < q.fresh_low) left c.if-instances-made.true)))
