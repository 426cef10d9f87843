-- The first open port has links that it may have.
use Rattle.branch_cut.proofs.OwedLaws.{told_port, open_port_there}
use Rattle.branch_cut.proofs.stuck.owed_port.Goals as goal

pub port-requires : goal.port-requires
port-requires c =
    open_port_there c.args.problem.now c.args.p.now (record { instance = c.in-Some.instance; port = c.in-Some.port })
    (told_port c.args.problem.now c.args.p.now c.first_open.result (c.in-Some.instance, c.in-Some.port) c.first_open.ensures c.in-Some.is)
