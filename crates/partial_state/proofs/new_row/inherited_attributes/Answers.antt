use Rattle.std.proofs.Common.{◌≡◌, Some, None, rules, ap, length}
use Rattle.prod_model.specs.Forest.{parent_of as parent_at}
use Rattle.partial_state.proofs.NewRows.{parent_known, inherited_of_parent, nothing_inherited}
use Rattle.partial_state.proofs.new_row.inherited_attributes.Goals as goal

pub attrs_of-requires : goal.attrs_of-requires
attrs_of-requires c =
    let is : parent_at c.args.problem.now c.args.t ≡ Some c.in-Some.parent = search rules in
    parent_known c.args.problem.now c.requires.valid c.args.t c.in-Some.parent is

pub returns-in-Some : goal.returns-in-Some
returns-in-Some c =
    let is : parent_at c.args.problem.now c.args.t ≡ Some c.in-Some.parent = search rules in
    inherited_of_parent c.args.problem.now c.args.t c.in-Some.parent _ is (ap length c.attrs_of.ensures)

pub returns-in-None : goal.returns-in-None
returns-in-None c =
    let is : parent_at c.args.problem.now c.args.t ≡ None = search rules in
    nothing_inherited c.args.problem.now c.args.t is
