-- A wanted configuration that beats the best so far takes its place.
use Rattle.std.proofs.Common.{subst, sym, ◌∙◌}
use Rattle.std.specs.Prelude.{IsTrue}
use Rattle.reason_trail.specs.Jobs.{IsWanted, beats_best}
use Rattle.seq_search.proofs.Advanced.{lowered_kept}
use Rattle.seq_search.proofs.searcher.Searcher.lower.Goals as goal

pub invariant_of-self : goal.invariant_of-self
invariant_of-self g c =
    let s = c.self.inside in
    lowered_kept (g.P.Propagate.job s.props) s.trail s.store s.piece s.branches.items s.best s.learnt.items c.args.c
    (subst (λ x. IsWanted x.job c.args.c) (sym c.self.view_is) c.requires)
    (subst (λ x. IsTrue (beats_best x.job x.best c.args.c)) (sym c.self.view_is) (sym c.is_beaten_by.ensures ∙ c.if-not-is_beaten_by.false)) c.self.invariant
