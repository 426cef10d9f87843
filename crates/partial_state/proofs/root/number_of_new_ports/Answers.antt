use Rattle.std.proofs.Common.{ap, length, arith}
use Rattle.partial_state.proofs.Counted.{ports_parted}
use Rattle.partial_state.proofs.root.number_of_new_ports.Goals as goal

pub overflow_sub-result : goal.overflow_sub-result
overflow_sub-result c =
    let parted = ports_parted c.args.problem.now c.requires.valid c.args.t c.requires.known in
    omega (arith, parted, c.inherited_ports.ensures, ap length c.ports_of.ensures)

pub returns : goal.returns
returns c =
    let parted = ports_parted c.args.problem.now c.requires.valid c.args.t c.requires.known in
    omega (arith, parted, c.inherited_ports.ensures, ap length c.ports_of.ensures)
