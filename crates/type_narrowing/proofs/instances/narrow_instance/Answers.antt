-- The mask of the instance's types tells whether there is one alone.
use Rattle.std.proofs.Common.{◌≡◌, ℕ, subst, ◌∙◌}
use Rattle.std.specs.Prelude.{if◌then◌else◌}
use Rattle.std.specs.Int.{bit_at}
use Rattle.state_space.specs.Sets.{has_number}
use Rattle.state_space.specs.State.{kinds_at}
use Rattle.branch_cut.proofs.KindMasks.{some_kind, only_kind}
use Rattle.type_narrowing.proofs.Narrowings.{narrows_itself, narrows_on}
use Rattle.type_narrowing.proofs.instances.narrow_instance.Goals as goal

pub sole-requires : goal.sole-requires
sole-requires c =
    let t = c.args.trail.now in
    some_kind t.job.model t.state c.args.i c.kinds.result c.state.ensures.problem c.requires.made
    (subst (λ s. (k : ℕ) → bit_at c.kinds.result k ≡ (if has_number (kinds_at s c.args.i) k then 1 else 0)) c.state.ensures.state c.kinds.ensures)

pub narrow_attributes-requires-clause-sole : goal.narrow_attributes-requires-clause-sole
narrow_attributes-requires-clause-sole c =
    let t = c.args.trail.now in
    only_kind t.job.model t.state c.args.i c.kinds.result c.state.ensures.problem c.requires.made
    (subst (λ s. (k : ℕ) → bit_at c.kinds.result k ≡ (if has_number (kinds_at s c.args.i) k then 1 else 0)) c.state.ensures.state c.kinds.ensures) c.in-Some.kind c.in-Some.ensures

pub narrow_ports-requires-clause-sole : goal.narrow_ports-requires-clause-sole
narrow_ports-requires-clause-sole c =
    let t = c.args.trail.now in
    c.narrow_attributes.ensures.narrows.kinds c.args.i
    ∙ only_kind t.job.model t.state c.args.i c.kinds.result c.state.ensures.problem c.requires.made
    (subst (λ s. (k : ℕ) → bit_at c.kinds.result k ≡ (if has_number (kinds_at s c.args.i) k then 1 else 0)) c.state.ensures.state c.kinds.ensures) c.in-Some.kind c.in-Some.ensures

pub returns-in-None-clause-narrows : goal.returns-in-None-clause-narrows
returns-in-None-clause-narrows c = narrows_itself c.args.trail.now

pub returns-else-is_some-clause-narrows : goal.returns-else-is_some-clause-narrows
returns-else-is_some-clause-narrows c =
    narrows_on c.args.trail.now c.narrow_attributes.new.trail c.narrow_ports.new.trail c.narrow_attributes.ensures.narrows c.narrow_ports.ensures.narrows
