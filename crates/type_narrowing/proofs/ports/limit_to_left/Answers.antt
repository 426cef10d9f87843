-- The type supports that a port links no more later instances than are left.
use Rattle.std.proofs.Common.{◌-◌, ap, ap₂, sym, subst, ◌∙◌}
use Rattle.std.specs.Prelude.{IsTrue, IsSome}
use Rattle.config_value.specs.declared.literal.Literal.TheVariants.{FreshAtMost}
use Rattle.config_value.specs.Literals.{has_literal}
use Rattle.state_space.specs.State.{number_made, port_at}
use Rattle.state_space.specs.Entails.{fits}
use Rattle.state_space.proofs.NarrowingLaws.{true_along}
use Rattle.type_narrowing.proofs.Narrowings.{narrows_itself}
use Rattle.type_narrowing.proofs.PortReasons.{links_there, later_fits, left_supported}
use Rattle.type_narrowing.proofs.ports.limit_to_left.Goals as goal

pub port-requires : goal.port-requires
port-requires c =
    subst (λ s. IsSome (port_at s c.args.i c.args.port.now.id)) (sym c.state-2.ensures.state)
    (links_there c.args.trail.now.job c.args.trail.now.state c.args.i c.args.kind c.args.port.now c.job-task.ensures.right.task c.state.ensures.problem c.requires.sole c.requires.declared)

pub returns-then-port-left : goal.returns-then-port-left
returns-then-port-left c = narrows_itself c.args.trail.now

pub derive_of_kind-requires-clause-fits : goal.derive_of_kind-requires-clause-fits
derive_of_kind-requires-clause-fits c =
    let t = c.args.trail.now in
    let left = c.args.instances - c.made-made.result in
    let made = c.made-made.ensures ∙ ap number_made c.state.ensures.state in
    subst (λ n. IsTrue (fits t.job.model t.state (FreshAtMost c.args.i c.args.port.now.id n left))) (sym made)
    (later_fits t.job t.state c.args.i c.args.kind c.args.port.now c.job-task.ensures.right.task c.state.ensures.problem c.requires.sole c.requires.declared left)

pub derive_of_kind-requires-clause-supported : goal.derive_of_kind-requires-clause-supported
derive_of_kind-requires-clause-supported c = λ x subject has.
    let t = c.args.trail.now in
    let made = c.made-made.ensures ∙ ap number_made c.state.ensures.state in
    let left = ap₂ (λ a b. a - b) c.requires.instances made in
    true_along _ _ (ap₂ (λ n k. has_literal t.job.model x (FreshAtMost c.args.i c.args.port.now.id n k)) (sym made) (sym left))
    (left_supported t.job t.state c.args.i c.args.kind c.args.port.now c.job-task.ensures.right.task c.state.ensures.problem c.requires.sole c.requires.declared x subject has)
