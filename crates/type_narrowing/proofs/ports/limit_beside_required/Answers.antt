-- A port has no more later links than its type allows beside the required ones.
use Rattle.std.proofs.Common.{◌≡◌, ◌-◌, length, ap, ap₂, sym, subst, ◌∙◌, arith}
use Rattle.std.specs.Prelude.{IsTrue, IsSome}
use Rattle.config_value.specs.declared.literal.Literal.TheVariants.{FreshAtMost}
use Rattle.config_value.specs.Literals.{has_literal}
use Rattle.state_space.specs.State.{number_made, port_at}
use Rattle.state_space.specs.Entails.{fits}
use Rattle.state_space.proofs.NarrowingLaws.{true_along}
use Rattle.partial_state.specs.Masks.{instances_of}
use Rattle.partial_state.specs.Views.{state_of_port}
use Rattle.type_narrowing.proofs.Narrowings.{narrows_itself}
use Rattle.type_narrowing.proofs.PortReasons.{links_there, later_fits, high_supported, beside_supported}
use Rattle.type_narrowing.proofs.ports.limit_beside_required.Goals as goal

pub port-links-requires : goal.port-links-requires
port-links-requires c =
    subst (λ s. IsSome (port_at s c.args.i c.args.port.now.id)) (sym c.state-2.ensures.state)
    (links_there c.args.trail.now.job c.args.trail.now.state c.args.i c.args.kind c.args.port.now c.job-task.ensures.right.task c.state.ensures.problem c.requires.sole c.requires.declared)

pub returns-then-port-required : goal.returns-then-port-required
returns-then-port-required c = narrows_itself c.args.trail.now

pub derive_of_kind-requires-clause-fits : goal.derive_of_kind-requires-clause-fits
derive_of_kind-requires-clause-fits c =
    let t = c.args.trail.now in
    let most = c.args.port.now.high - c.required_count-required.result in
    let made = c.made-made.ensures ∙ ap number_made c.state.ensures.state in
    subst (λ n. IsTrue (fits t.job.model t.state (FreshAtMost c.args.i c.args.port.now.id n most))) (sym made)
    (later_fits t.job t.state c.args.i c.args.kind c.args.port.now c.job-task.ensures.right.task c.state.ensures.problem c.requires.sole c.requires.declared most)

pub derive_of_kind-requires-clause-supported : goal.derive_of_kind-requires-clause-supported
derive_of_kind-requires-clause-supported c = λ x subject has.
    let t = c.args.trail.now in
    let made = c.made-made.ensures ∙ ap number_made c.state.ensures.state in
    let none = c.if-required-eq0.true in
    let most : c.args.port.now.high - c.required_count-required.result ≡ c.args.port.now.high = omega (arith, none) in
    true_along _ _ (ap₂ (λ n k. has_literal t.job.model x (FreshAtMost c.args.i c.args.port.now.id n k)) (sym made) (sym most))
    (high_supported t.job t.state c.args.i c.args.kind c.args.port.now c.job-task.ensures.right.task c.state.ensures.problem c.requires.sole c.requires.declared x subject has)

pub derive_here-requires-clause-fits : goal.derive_here-requires-clause-fits
derive_here-requires-clause-fits c =
    let t = c.args.trail.now in
    let most = c.args.port.now.high - c.required_count-required.result in
    let made = c.made-made.ensures ∙ ap number_made c.state.ensures.state in
    subst (λ n. IsTrue (fits t.job.model t.state (FreshAtMost c.args.i c.args.port.now.id n most))) (sym made)
    (later_fits t.job t.state c.args.i c.args.kind c.args.port.now c.job-task.ensures.right.task c.state.ensures.problem c.requires.sole c.requires.declared most)

pub derive_here-requires-clause-supported : goal.derive_here-requires-clause-supported
unfolding instances_of
derive_here-requires-clause-supported c = λ x subject covers.
    let t = c.args.trail.now in
    let q = state_of_port c.port-links.result in
    let is = sym (ap (λ s. port_at s c.args.i c.args.port.now.id) c.state-2.ensures.state) ∙ c.port-links.ensures.links in
    let made = c.made-made.ensures ∙ ap number_made c.state.ensures.state in
    let most : c.args.port.now.high - c.required_count-required.result ≡ c.args.port.now.high - length q.required = ap (λ n. c.args.port.now.high - n) c.required_count-required.ensures in
    true_along _ _ (ap₂ (λ n k. has_literal t.job.model x (FreshAtMost c.args.i c.args.port.now.id n k)) (sym made) (sym most))
    (beside_supported t.job t.state c.args.i c.args.kind c.args.port.now c.job-task.ensures.right.task c.state.ensures.problem c.requires.sole c.requires.declared q is x subject covers)
