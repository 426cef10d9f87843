use Rattle.std.proofs.Common.{◌&&◌, ◌-◌}
use Rattle.instance_set.specs.InstanceSets.{is_member}
use Rattle.instance_set.proofs.Walks.{HasFoundBelow}
use Rattle.state_values.specs.Sights.{is_surely_under}
use Rattle.state_values.proofs.links.surely_among.Given as goal

-- those of the members so far
abbrev pub invariant-loop-j : goal.invariant-loop-j
invariant-loop-j l = HasFoundBelow (λ j. is_member l.among j && is_surely_under l.problem l.p l.kind j) l.from l.found

abbrev pub decreases-loop-j : goal.decreases-loop-j
decreases-loop-j l = 256 - l.from
