use Rattle.std.proofs.Common.{◌≡◌, map, take}
use Rattle.model_literals.specs.Literals.{attribute_of}
use Rattle.model_literals.proofs.declared.attributes_of.Given as goal

abbrev pub invariant-loop-literal : goal.invariant-loop-literal
invariant-loop-literal l = l.attributes ≡ map attribute_of (take l.literal-index l.literals)
