use Rattle.std.proofs.Common.{◌&&◌, ◌-◌}
use Rattle.std.specs.List.{list_all}
use Rattle.instance_set.specs.InstanceSets.{is_member}
use Rattle.instance_set.proofs.Walks.{HasFoundBelow}
use Rattle.config_value.specs.Value.{links_at_instance}
use Rattle.answer_check.proofs.linked.linking_only.Given as goal

-- those of the members so far
abbrev pub invariant-loop-i : goal.invariant-loop-i
invariant-loop-i l = HasFoundBelow (λ j. is_member l.among j && list_all (is_member l.into) (links_at_instance l.problem l.c l.port j)) l.from l.found

abbrev pub decreases-loop-i : goal.decreases-loop-i
decreases-loop-i l = 256 - l.from
