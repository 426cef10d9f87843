-- Where there is more, less is left.
use Rattle.std.proofs.Common.{arith}
use Rattle.seq_search.proofs.Solving.{more_falls, same_advanced}
use Rattle.seq_search.proofs.alone.run_to_end.Goals as goal

pub nodes-smaller : goal.nodes-smaller
nodes-smaller g c =
    more_falls g.P.Propagate.settled 1024 c.nodes.search c.advance.new.self c.in_ok-advance.field-0 (omega arith) c.in-More.is c.in_ok-advance.ensures.advanced

pub nodes-preserved : goal.nodes-preserved
nodes-preserved g c =
    same_advanced g.P.Propagate.settled 1024 c.args.search.now c.nodes.search c.advance.new.self c.in_ok-advance.field-0 c.nodes.invariant c.in_ok-advance.ensures.advanced

pub returns-in-Done-clause-same_job : goal.returns-in-Done-clause-same_job
returns-in-Done-clause-same_job g c =
    (same_advanced g.P.Propagate.settled 1024 c.args.search.now c.nodes.search c.advance.new.self c.in_ok-advance.field-0 c.nodes.invariant c.in_ok-advance.ensures.advanced).job

pub returns-in-Done-clause-same_piece : goal.returns-in-Done-clause-same_piece
returns-in-Done-clause-same_piece g c =
    (same_advanced g.P.Propagate.settled 1024 c.args.search.now c.nodes.search c.advance.new.self c.in_ok-advance.field-0 c.nodes.invariant c.in_ok-advance.ensures.advanced).piece
