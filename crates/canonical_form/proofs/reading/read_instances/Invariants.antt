use Rattle.std.proofs.Common.{◌-◌}
use Rattle.prod_model.specs.Limits.{most_instances}
use Rattle.canonical_form.proofs.LinesSteps.{HasInstances}
use Rattle.canonical_form.proofs.reading.read_instances.Given as goal

-- so many instances are read
abbrev pub invariant-loop-number : goal.invariant-loop-number
invariant-loop-number l = HasInstances l.known.problem.now l.number l.bytes l.instances l.rest

abbrev pub decreases-loop-number : goal.decreases-loop-number
decreases-loop-number l = most_instances - l.number
