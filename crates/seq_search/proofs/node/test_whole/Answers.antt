-- What is sought is shaped.
use Rattle.seq_search.proofs.Sought.{satisfied_is_shaped}
use Rattle.seq_search.proofs.node.test_whole.Goals as goal

pub beats_best-requires-clause-shaped : goal.beats_best-requires-clause-shaped
beats_best-requires-clause-shaped c =
    satisfied_is_shaped c.args.job.now.model c.in_ok-c.c (c.is_sought.ensures.0 c.if-is_sought.true).wanted.candidate.satisfied
