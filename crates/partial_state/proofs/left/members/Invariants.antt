use Rattle.std.proofs.Common.{◌≡◌, ◌≤◌, ◌-◌, ◌++◌}
use Rattle.partial_state.specs.Masks.{instances_of}
use Rattle.partial_state.proofs.MembersInTurn.{members_from}
use Rattle.partial_state.proofs.left.members.Given as goal

abbrev pub invariant-loop-j : goal.invariant-loop-j
invariant-loop-j l = (l.members.items ++ members_from l.set l.from ≡ instances_of l.set) × (l.from ≤ 256)

abbrev pub decreases-loop-j : goal.decreases-loop-j
decreases-loop-j l = 256 - l.from
