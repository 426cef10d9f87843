use Rattle.std.proofs.Common.{◌≡◌, ◌++◌, not}
use Rattle.config_value.specs.declared.literal.Literal.TheVariants.{NotLinked}
use Rattle.instance_set.specs.InstanceSets.{is_member}
use Rattle.reason_trail.proofs.InTurn.{told}
use Rattle.reason_trail.proofs.appended.push_not_linked.Given as goal

-- what those before j add is appended
abbrev pub invariant-loop-j : goal.invariant-loop-j
invariant-loop-j l = l.into ≡ l.fn.into ++ told (λ k. NotLinked l.i l.port k) (λ k. not (is_member l.set k)) l.j
