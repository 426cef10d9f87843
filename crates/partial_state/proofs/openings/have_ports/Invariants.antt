use Rattle.partial_state.proofs.KindSearches.{IsSearched}
use Rattle.partial_state.proofs.openings.have_ports.Given as goal

-- the types that are no longer left have no ports
abbrev pub invariant-loop-rest : goal.invariant-loop-rest
invariant-loop-rest l = IsSearched l.problem l.mask l.rest

abbrev pub decreases-loop-rest : goal.decreases-loop-rest
decreases-loop-rest l = l.rest
