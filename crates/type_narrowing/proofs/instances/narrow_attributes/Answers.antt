-- The instance stays of its one type, and so has the attributes of that.
use Rattle.std.proofs.Common.{◌<◌, length, ap, sym, subst, ◌∙◌}
use Rattle.base_laws.proofs.Places.{read_at}
use Rattle.prod_model.specs.Taxonomy.{attributes_at}
use Rattle.branch_cut.proofs.FixedLaws.{type_known}
use Rattle.type_narrowing.proofs.Narrowings.{narrows_itself, narrows_on}
use Rattle.type_narrowing.proofs.instances.narrow_attributes.Goals as goal

pub attrs_of-attribute-items-requires : goal.attrs_of-attribute-items-requires
attrs_of-attribute-items-requires c =
    subst (λ m. c.args.kind < length m.types) (sym c.requires.problem)
    (type_known c.args.trail.now.job.model c.args.trail.now.state c.args.i c.args.kind c.state-state.ensures.problem c.requires.sole)

pub loop-attribute-init : goal.loop-attribute-init
loop-attribute-init c = narrows_itself c.args.trail.now

pub narrow_attribute-requires-clause-declared : goal.narrow_attribute-requires-clause-declared
narrow_attribute-requires-clause-declared c =
    let model = c.requires.problem ∙ ap (λ j. j.model) (sym c.loop-attribute.invariant.filters.extends.job) in
    let items = c.attrs_of-attribute-items.ensures ∙ ap (λ m. attributes_at m c.args.kind) model in
    (c.loop-attribute.attribute-index, read_at c.attrs_of-attribute-items.result.now _ c.loop-attribute.attribute-index c.attribute-item.result items c.loop-attribute-test.true c.attribute-item.is)

pub returns-in_err-failed-clause-narrows : goal.returns-in_err-failed-clause-narrows
returns-in_err-failed-clause-narrows c = narrows_on c.args.trail.now c.loop-attribute.trail c.narrow_attribute.new.trail c.loop-attribute.invariant c.narrow_attribute.ensures.narrows

pub returns-then-is_some-clause-narrows : goal.returns-then-is_some-clause-narrows
returns-then-is_some-clause-narrows c = narrows_on c.args.trail.now c.loop-attribute.trail c.narrow_attribute.new.trail c.loop-attribute.invariant c.narrow_attribute.ensures.narrows

pub loop-attribute-preserved : goal.loop-attribute-preserved
loop-attribute-preserved c = narrows_on c.args.trail.now c.loop-attribute.trail c.narrow_attribute.new.trail c.loop-attribute.invariant c.narrow_attribute.ensures.narrows
