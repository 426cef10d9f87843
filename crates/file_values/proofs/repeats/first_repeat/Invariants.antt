use Rattle.std.proofs.Common.{map}
use Rattle.file_values.specs.steps.Groups.{grouped}
use Rattle.file_values.proofs.RepeatLaws.{IsTaken}
use Rattle.file_values.proofs.repeats.first_repeat.Given as goal

-- the texts before this one were taken in, and differ
abbrev pub invariant-loop-number : goal.invariant-loop-number
invariant-loop-number l = IsTaken (map (λ p. p.text) (grouped l.group)) l.number l.names
