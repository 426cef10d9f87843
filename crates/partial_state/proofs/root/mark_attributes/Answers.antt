use Rattle.std.proofs.Common.{◌≡◌, true, length, arith}
use Rattle.prod_model.specs.Forest.{is_leaf}
use Rattle.prod_model.proofs.ValidModels.{few_types}
use Rattle.config_value.specs.Literals.{has_attribute}
use Rattle.state_space.specs.State.{first_attributes}
use Rattle.partial_state.proofs.MarkedTypes.{attribute_within, leaf_marked, ids_marked}
use Rattle.partial_state.proofs.root.mark_attributes.Goals as goal

-- there are at most 128 types
pub mark-requires-clause-below : goal.mark-requires-clause-below
mark-requires-clause-below c =
    let few = few_types c.args.problem.now c.requires.valid in
    omega (arith, few, c.requires.known)

-- each id has its place
pub mark-requires-clause-within : goal.mark-requires-clause-within
mark-requires-clause-within c =
    let within = attribute_within c.args.problem.now c.requires.valid c.args.t c.loop-attribute.attribute-index c.attrs_of-attributes.result.now c.attribute-item.result c.attrs_of-attributes.ensures c.loop-attribute-test.true c.attribute-item.is in
    omega (arith, within, c.loop-attribute.invariant.long, c.requires.marked.long)

-- all of the leaf are marked
pub returns : goal.returns
returns c =
    let m = c.args.problem.now in
    let xs = c.attrs_of-attributes.result.now in
    let leaf : is_leaf m c.args.t ≡ true = grind (arith, c.is_leaf.ensures, c.if-not-is_leaf.false) in
    let end : c.loop-attribute.attribute-index ≡ length xs = omega arith in
    leaf_marked m (λ k a. has_attribute m k a) (length (first_attributes m)) c.args.t c.args.masks.now.items c.loop-attribute.masks.items c.requires.marked leaf
    (ids_marked (λ e. e.id) c.args.t xs _ c.loop-attribute.attribute-index c.args.masks.now.items c.loop-attribute.masks.items c.attrs_of-attributes.ensures end c.loop-attribute.invariant)
