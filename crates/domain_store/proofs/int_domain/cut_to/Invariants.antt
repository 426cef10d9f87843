use Rattle.std.proofs.Common.{◌≡◌, ◌≤◌, take, drop, length}
use Rattle.domain_store.specs.steps.Cut.{cut}
use Rattle.domain_store.proofs.int_domain.cut_to.Given as goal

-- in front stands what is left of the intervals so far, and the others are as they were
abbrev pub invariant-loop-i : goal.invariant-loop-i
invariant-loop-i l = record {
  length : length l.intervals ≡ length l.initial.intervals;
  behind : l.count ≤ l.i;
  done : take l.count l.intervals ≡ cut l.range (take l.i l.initial.intervals);
  rest : drop l.i l.intervals ≡ drop l.i l.initial.intervals;
}
