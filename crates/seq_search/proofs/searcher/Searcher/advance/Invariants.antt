-- In each turn so far a node was expanded.
use Rattle.std.proofs.Common.{◌≡◌}
use Rattle.seq_search.specs.Advances.{Expands}
use Rattle.seq_search.proofs.searcher.Searcher.advance.Given as goal

abbrev pub invariant-loop-turn : goal.invariant-loop-turn
invariant-loop-turn g l = record {
  job : l.self.job ≡ l.initial.self.job;
  expanded : Expands g.P.Propagate.settled l._turn l.initial.self l.self;
}
