use Rattle.std.proofs.Common.{◌≡◌, Some, None, rules, ap, length}
use Rattle.prod_model.specs.Forest.{parent_of as parent_at}
use Rattle.partial_state.proofs.NewRows.{parent_known}
use Rattle.partial_state.proofs.Counted.{ports_of_parent, no_ports_above}
use Rattle.partial_state.proofs.root.inherited_ports.Goals as goal

pub ports_of-requires : goal.ports_of-requires
ports_of-requires c =
    let is : parent_at c.args.problem.now c.args.t ≡ Some c.in-Some.parent = search rules in
    parent_known c.args.problem.now c.requires.valid c.args.t c.in-Some.parent is

pub returns-in-Some : goal.returns-in-Some
returns-in-Some c =
    let is : parent_at c.args.problem.now c.args.t ≡ Some c.in-Some.parent = search rules in
    ports_of_parent c.args.problem.now c.args.t c.in-Some.parent _ is (ap length c.ports_of.ensures)

pub returns-in-None : goal.returns-in-None
returns-in-None c =
    let is : parent_at c.args.problem.now c.args.t ≡ None = search rules in
    no_ports_above c.args.problem.now c.args.t is
