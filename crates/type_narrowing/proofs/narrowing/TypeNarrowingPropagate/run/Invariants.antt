use Rattle.std.proofs.Common.{◌≡◌}
use Rattle.type_narrowing.specs.steps.Narrowing.{Narrows}
use Rattle.type_narrowing.proofs.narrowing.TypeNarrowingPropagate.run.Given as goal

-- nothing that is wanted was lost so far, and the job is the same
abbrev pub invariant-loop-i : goal.invariant-loop-i
invariant-loop-i l = record {
  narrows : Narrows l.initial.trail l.trail;
  job : l.self-inside.job ≡ l.initial.self-inside.job;
}
