use Rattle.std.proofs.Common.{◌≡◌, ◌≤◌, ◌-◌, ◌++◌, map}
use Rattle.config_value.specs.declared.literal.Literal.TheVariants.{Linked}
use Rattle.partial_state.specs.Masks.{instances_of}
use Rattle.partial_state.proofs.MembersInTurn.{members_from}
use Rattle.reason_trail.specs.Begun.{Begins}
use Rattle.reason_trail.proofs.appended.push_linked.Given as goal

-- what the members from a number on add is still to come
abbrev pub invariant-loop-j : goal.invariant-loop-j
invariant-loop-j l =
    (l.into ++ map (λ k. Linked l.i l.port k) (members_from l.set l.from) ≡ l.fn.into ++ map (λ k. Linked l.i l.port k) (instances_of l.set))
    × Begins l.fn.into l.into × (l.from ≤ 256)

abbrev pub decreases-loop-j : goal.decreases-loop-j
decreases-loop-j l = 256 - l.from
