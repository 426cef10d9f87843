use Rattle.std.proofs.Common.{◌≡◌, take}
use Rattle.std.specs.List.{filter_map}
use Rattle.reason_trail.specs.Assumptions.{assumed_by}
use Rattle.conflict_learn.proofs.assumptions.assumed.Given as goal

abbrev pub invariant-loop-n : goal.invariant-loop-n
invariant-loop-n l = l.literals.items ≡ filter_map (λ g. assumed_by g.entry) (take l.n l.trail.stages)
