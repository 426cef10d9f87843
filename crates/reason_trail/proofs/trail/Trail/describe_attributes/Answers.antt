use Rattle.std.proofs.Common.{◌++◌, ◌∙◌, ap, sym, refl, append-nil}
use Rattle.std.specs.List.{flat_map}
use Rattle.std.proofs.lemmas.List.{take_all}
use Rattle.base_laws.proofs.Places.{read_at}
use Rattle.base_laws.proofs.Steps.{flat_map_take_more}
use Rattle.prod_model.specs.declared.model.AttrAt.{AttrAt}
use Rattle.prod_model.specs.Taxonomy.{attributes_at}
use Rattle.state_space.specs.Descriptions.{attribute_description}
use Rattle.reason_trail.proofs.InTurn.{two_joined, begins_longer, begins_on, on_err}
use Rattle.reason_trail.proofs.trail.Trail.describe_attributes.Goals as goal

pub loop-attribute-init : goal.loop-attribute-init
loop-attribute-init c = sym (append-nil c.args.into.now)

pub loop-attribute-preserved : goal.loop-attribute-preserved
loop-attribute-preserved c =
    let items = c.attrs_of-attribute-items.result.now in
    let each = λ (x : AttrAt). attribute_description c.args.self.now.job.model c.args.self.now.state c.args.i x.id in
    let at = read_at items items c.loop-attribute.attribute-index c.attribute-item.result refl c.loop-attribute-test.true c.attribute-item.is in
    two_joined c.args.into.now c.loop-attribute.into c.describe_attribute.new.into _ _ c.loop-attribute.invariant c.in_ok-describe_attribute.ensures.described
    ∙ ap (λ ls. c.args.into.now ++ ls) (sym (flat_map_take_more each items c.loop-attribute.attribute-index c.attribute-item.result at))

pub returns-in_err-describe_attribute-clause-begun : goal.returns-in_err-describe_attribute-clause-begun
returns-in_err-describe_attribute-clause-begun c =
    on_err (begins_on c.args.into.now c.loop-attribute.into c.describe_attribute.new.into (begins_longer c.args.into.now _ c.loop-attribute.into c.loop-attribute.invariant) c.in_err-describe_attribute.ensures.begun) c.from_residual.result

pub returns-clause-described : goal.returns-clause-described
returns-clause-described c =
    let model = c.problem.ensures.problem ∙ ap (λ j. j.model) c.job.ensures.job in
    let each = λ (x : AttrAt). attribute_description c.args.self.now.job.model c.args.self.now.state c.args.i x.id in
    c.loop-attribute.invariant
    ∙ ap (λ xs. c.args.into.now ++ flat_map each xs)
    (take_all c.loop-attribute.attribute-index c.attrs_of-attribute-items.result.now c.loop-attribute-test.false ∙ c.attrs_of-attribute-items.ensures ∙ ap (λ m. attributes_at m c.args.kind) model)
