use Rattle.std.proofs.Common.{◌≡◌, map, take}
use Rattle.model_literals.specs.Literals.{name_of}
use Rattle.model_literals.proofs.declared.names_of.Given as goal

abbrev pub invariant-loop-text : goal.invariant-loop-text
invariant-loop-text l = l.names ≡ map (λ text. name_of text.now) (take l.text-index l.texts)
