use Rattle.type_narrowing.specs.steps.Narrowing.{Narrows}
use Rattle.type_narrowing.proofs.instances.narrow_attributes.Given as goal

-- nothing that is wanted was lost so far
abbrev pub invariant-loop-attribute : goal.invariant-loop-attribute
invariant-loop-attribute l = Narrows l.initial.trail l.trail
