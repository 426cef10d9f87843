use Rattle.std.proofs.Common.{◌≡◌, map, take}
use Rattle.model_literals.specs.Literals.{port_of}
use Rattle.model_literals.proofs.declared.ports_of.Given as goal

abbrev pub invariant-loop-literal : goal.invariant-loop-literal
invariant-loop-literal l = l.ports ≡ map port_of (take l.literal-index l.literals)
