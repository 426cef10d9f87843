-- The instance has the ports of its type.
use Rattle.std.proofs.Common.{None}
use Rattle.prod_model.specs.declared.model.PortKind.TheVariants.{Part}
use Rattle.branch_cut.proofs.FixedLaws.{type_known, port_there_in, port_split_in}
use Rattle.branch_cut.proofs.choosing.port_branch.Goals as goal

pub ports_of-port-items-requires : goal.ports_of-port-items-requires
ports_of-port-items-requires c = type_known c.args.problem.now c.args.p.now c.args.i c.args.kind c.requires.state c.requires.sole

pub link_branch-branch-requires : goal.link_branch-branch-requires
link_branch-branch-requires c =
    port_there_in c.args.problem.now c.args.p.now c.args.i c.args.kind c.requires.state c.requires.sole c.ports_of-port-items.result.now c.loop-port.port-index
    (record { id = 0; kind = Part; target = 0; low = 0; high = 0; inverse = None }) c.ports_of-port-items.ensures c.loop-port-test.true

pub returns-then-is_some-clause-branch : goal.returns-then-is_some-clause-branch
returns-then-is_some-clause-branch c = λ b is.
    port_split_in c.args.problem.now c.args.p.now c.args.i c.args.kind c.requires.state c.requires.sole c.ports_of-port-items.result.now c.loop-port.port-index
    (record { id = 0; kind = Part; target = 0; low = 0; high = 0; inverse = None }) b c.ports_of-port-items.ensures c.loop-port-test.true (c.link_branch-branch.ensures.splits b is)
