-- In each turn a node is expanded, until no branch is open.
use Rattle.std.proofs.Common.{◌∙◌, refl}
use Rattle.seq_search.specs.Advances.{none}
use Rattle.seq_search.proofs.Advanced.{advanced_done, one_node_more}
use Rattle.seq_search.proofs.searcher.Searcher.advance.Goals as goal

pub loop-turn-init : goal.loop-turn-init
loop-turn-init g c = record { job = refl; expanded = none c.args.self.now }

pub loop-turn-preserved : goal.loop-turn-preserved
loop-turn-preserved g c = record {
  job = c.in_ok-expand.ensures.node.same_job ∙ c.loop-turn.invariant.job;
  expanded = one_node_more g.P.Propagate.settled c.args.self.now c.loop-turn.self c.expand.new.self c.loop-turn._turn c.loop-turn.invariant.expanded c.in_ok-expand.ensures.node;
}

pub returns-then-is_done-clause-advanced : goal.returns-then-is_done-clause-advanced
returns-then-is_done-clause-advanced g c =
    advanced_done g.P.Propagate.settled c.args.turns c.args.self.now c.loop-turn.self c.loop-turn._turn c.loop-turn.auto._turn-end c.loop-turn.invariant.expanded (c.is_done.ensures.0 c.if-is_done.true)
