use Rattle.std.proofs.Common.{◌≡◌, ◌<◌, ◌∙◌, ap, length, arith}
use Rattle.prod_model.specs.Taxonomy.{first_id}
use Rattle.prod_model.proofs.ValidModels.{few_types}
use Rattle.partial_state.proofs.Counted.{attributes_next, attributes_few, attributes_all}
use Rattle.partial_state.proofs.root.number_of_attributes.Goals as goal

-- there are at most 128 types
pub overflow_cast-t : goal.overflow_cast-t
overflow_cast-t c =
    let few = few_types c.args.problem.now c.requires in
    omega (arith, few, c.len-t-end.ensures, ap (λ m. length m.types) c.model.ensures.model)

-- and at most 256 attributes
pub overflow_add-count : goal.overflow_add-count
overflow_add-count c =
    let m = c.args.problem.now in
    let within : c.loop-t.t < length m.types = omega (arith, c.len-t-end.ensures, ap (λ m. length m.types) c.model.ensures.model) in
    let few = attributes_few m c.requires c.loop-t.t c.loop-t.count c.new_attributes-new.result.now within c.loop-t.invariant c.new_attributes-new.ensures.new in
    omega (arith, few)

pub loop-t-preserved : goal.loop-t-preserved
loop-t-preserved c =
    attributes_next c.args.problem.now c.loop-t.t c.loop-t.count c.new_attributes-new.result.now c.loop-t.invariant c.new_attributes-new.ensures.new

-- all types are gone over
pub returns : goal.returns
returns c =
    let m = c.args.problem.now in
    let end : c.loop-t.t ≡ length m.types = omega (arith, c.len-t-end.ensures, ap (λ m. length m.types) c.model.ensures.model) in
    c.loop-t.invariant ∙ ap (first_id (λ d. d.attributes) (λ d. d.name) m.types) end ∙ attributes_all m
