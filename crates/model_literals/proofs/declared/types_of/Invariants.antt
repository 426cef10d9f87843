use Rattle.std.proofs.Common.{◌≡◌, map, take}
use Rattle.model_literals.specs.Literals.{type_of}
use Rattle.model_literals.proofs.declared.types_of.Given as goal

abbrev pub invariant-loop-literal : goal.invariant-loop-literal
invariant-loop-literal l = l.types ≡ map type_of (take l.literal-index l.literals)
