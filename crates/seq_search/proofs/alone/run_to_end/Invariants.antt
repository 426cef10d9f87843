-- The job and the piece stay, and what is left weighs less with each node.
use Rattle.seq_search.specs.Searches.{weight_left}
use Rattle.seq_search.proofs.Solving.{IsSame}
use Rattle.seq_search.proofs.alone.run_to_end.Given as goal

abbrev pub invariant-nodes : goal.invariant-nodes
invariant-nodes g l = IsSame l.initial.search l.search

abbrev pub decreases-nodes : goal.decreases-nodes
decreases-nodes g l = weight_left l.search
