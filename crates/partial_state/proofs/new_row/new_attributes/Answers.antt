use Rattle.std.proofs.Common.{◌∙◌, ap, map, length, drop, arith}
use Rattle.partial_state.proofs.NewRows.{attributes_few, inherited_few, new_attributes_behind, new_attributes_formed, rest_taken}
use Rattle.partial_state.proofs.new_row.new_attributes.Goals as goal

pub slice_bounds-result-count : goal.slice_bounds-result-count
slice_bounds-result-count c =
    let few = inherited_few c.args.problem.now c.requires.valid c.args.t c.inherited_attributes-inherited.result c.requires.known c.inherited_attributes-inherited.ensures in
    omega (arith, few, ap length c.attrs_of.ensures)

pub slice_bounds-result-start : goal.slice_bounds-result-start
slice_bounds-result-start c =
    let few = inherited_few c.args.problem.now c.requires.valid c.args.t c.inherited_attributes-inherited.result c.requires.known c.inherited_attributes-inherited.ensures in
    omega (arith, few, ap length c.attrs_of.ensures)

pub offset_bounds-attrs_of-inherited : goal.offset_bounds-attrs_of-inherited
offset_bounds-attrs_of-inherited c =
    let few = inherited_few c.args.problem.now c.requires.valid c.args.t c.inherited_attributes-inherited.result c.requires.known c.inherited_attributes-inherited.ensures in
    let short = attributes_few c.args.problem.now c.requires.valid c.args.t c.requires.known in
    omega (arith, few, short)

pub returns-clause-new : goal.returns-clause-new
returns-clause-new c =
    let m = c.args.problem.now in
    let n = c.inherited_attributes-inherited.result in
    ap (map (λ a. a.domain)) (rest_taken n c.attrs_of.result.now ∙ ap (drop n) c.attrs_of.ensures)
    ∙ new_attributes_behind m c.requires.valid c.args.t n c.requires.known c.inherited_attributes-inherited.ensures

pub returns-clause-formed : goal.returns-clause-formed
returns-clause-formed c =
    let m = c.args.problem.now in
    let n = c.inherited_attributes-inherited.result in
    new_attributes_formed m c.requires.valid c.args.t _ c.requires.known
    (ap (map (λ a. a.domain)) (rest_taken n c.attrs_of.result.now ∙ ap (drop n) c.attrs_of.ensures)
    ∙ new_attributes_behind m c.requires.valid c.args.t n c.requires.known c.inherited_attributes-inherited.ensures)
