-- What has all the literals is still covered.
use Rattle.std.proofs.Common.{◌≡◌, true}
use Rattle.seq_search.specs.steps.Starting.{IsNarrowed}
use Rattle.seq_search.proofs.starting.narrow_each.Given as goal

abbrev pub invariant-loop-k : goal.invariant-loop-k
invariant-loop-k l = record {
  job : l.trail.job ≡ l.initial.trail.job;
  narrowed : IsNarrowed l.initial.trail.job.model l.literals l.initial.trail.state l.trail.state true;
}
