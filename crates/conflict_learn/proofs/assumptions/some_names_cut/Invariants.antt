use Rattle.std.proofs.Common.{◌≡◌, false, take}
use Rattle.std.specs.List.{list_any}
use Rattle.reason_trail.specs.Assumptions.{names_cut}
use Rattle.conflict_learn.proofs.assumptions.some_names_cut.Given as goal

abbrev pub invariant-loop-n : goal.invariant-loop-n
invariant-loop-n l = list_any (λ g. names_cut g.entry.why) (take l.n l.trail.stages) ≡ false
