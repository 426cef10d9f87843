-- The best so far is wanted, so it is shaped.
use Rattle.std.proofs.Common.{subst, sym}
use Rattle.std.specs.Prelude.{IsTrue}
use Rattle.config_value.specs.Shaped.{is_shaped}
use Rattle.seq_search.proofs.Sought.{wanted_is_shaped}
use Rattle.seq_search.proofs.seeking.beats_best.Goals as goal

pub rank_cmp-requires-clause-other_shaped : goal.rank_cmp-requires-clause-other_shaped
rank_cmp-requires-clause-other_shaped c =
    subst (λ m. IsTrue (is_shaped m c.in-Some.d)) (sym c.problem-problem.ensures.problem)
    (wanted_is_shaped c.args.job.now c.args.best.now c.in-Some.d c.requires.wanted c.in-Some.is)
