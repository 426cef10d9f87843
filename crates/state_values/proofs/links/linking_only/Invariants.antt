use Rattle.std.proofs.Common.{◌&&◌, ◌-◌}
use Rattle.instance_set.specs.InstanceSets.{is_member}
use Rattle.instance_set.proofs.Walks.{HasFoundBelow}
use Rattle.state_values.specs.steps.Truths.{links_only}
use Rattle.state_values.proofs.links.linking_only.Given as goal

-- those of the members so far
abbrev pub invariant-loop-i : goal.invariant-loop-i
invariant-loop-i l = HasFoundBelow (λ j. is_member l.among j && links_only l.p l.port j l.into) l.from l.found

abbrev pub decreases-loop-i : goal.decreases-loop-i
decreases-loop-i l = 256 - l.from
