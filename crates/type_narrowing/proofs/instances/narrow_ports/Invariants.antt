use Rattle.type_narrowing.specs.steps.Narrowing.{Narrows}
use Rattle.type_narrowing.proofs.instances.narrow_ports.Given as goal

-- nothing that is wanted was lost so far
abbrev pub invariant-loop-port : goal.invariant-loop-port
invariant-loop-port l = Narrows l.initial.trail l.trail
