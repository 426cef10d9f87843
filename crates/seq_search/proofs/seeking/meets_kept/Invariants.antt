-- Each kept request so far is met.
use Rattle.std.specs.Prelude.{not, ◌||◌}
use Rattle.config_value.specs.Satisfies.{meets}
use Rattle.seq_search.proofs.Sought.{PassBelow}
use Rattle.seq_search.proofs.seeking.meets_kept.Given as goal

abbrev pub invariant-loop-k : goal.invariant-loop-k
invariant-loop-k l = PassBelow (λ kept r. not kept || meets l.job.model l.c r) l.job.goal.keep l.job.order.requests l.k
