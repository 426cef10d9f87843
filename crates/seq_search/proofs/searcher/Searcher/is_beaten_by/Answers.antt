-- What is wanted is shaped.
use Rattle.std.proofs.Common.{subst, sym, ap, ◌∙◌}
use Rattle.std.specs.Prelude.{IsTrue}
use Rattle.config_value.specs.Shaped.{is_shaped}
use Rattle.seq_search.proofs.Sought.{satisfied_is_shaped}
use Rattle.seq_search.proofs.searcher.Searcher.is_beaten_by.Goals as goal

pub beats_best-requires-clause-shaped : goal.beats_best-requires-clause-shaped
beats_best-requires-clause-shaped g c =
    subst (λ j. IsTrue (is_shaped j.model c.args.c.now)) (sym (c.job.ensures.job ∙ ap (λ s. s.job) c.self.view_is))
    (satisfied_is_shaped c.args.self.now.job.model c.args.c.now c.requires.candidate.satisfied)
