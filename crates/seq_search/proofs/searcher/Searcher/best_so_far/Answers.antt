-- What always holds of the parts holds of the search.
use Rattle.std.proofs.Common.{subst}
use Rattle.seq_search.specs.Searches.{IsSearch}
use Rattle.seq_search.proofs.Advanced.{is_search}
use Rattle.seq_search.proofs.searcher.Searcher.best_so_far.Goals as goal

pub returns-in-None-clause-search : goal.returns-in-None-clause-search
returns-in-None-clause-search g c =
    let s = c.self.inside in
    subst IsSearch c.self.view_is (is_search (g.P.Propagate.job s.props) s.trail s.store s.piece s.branches.items s.best s.learnt.items c.job-task.ensures.right c.len-store.ensures.right c.self.invariant)

pub returns-in-Some-clause-search : goal.returns-in-Some-clause-search
returns-in-Some-clause-search g c =
    let s = c.self.inside in
    subst IsSearch c.self.view_is (is_search (g.P.Propagate.job s.props) s.trail s.store s.piece s.branches.items s.best s.learnt.items c.job-task.ensures.right c.len-store.ensures.right c.self.invariant)
