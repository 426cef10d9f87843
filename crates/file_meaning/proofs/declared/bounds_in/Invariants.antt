use Rattle.std.proofs.Common.{◌≡◌, map, take}
use Rattle.serde_json.specs.View.{view}
use Rattle.file_meaning.specs.ModelOf.{bound_in}
use Rattle.file_meaning.specs.steps.Names.{names_in}
use Rattle.file_meaning.proofs.declared.bounds_in.Given as goal

-- what the values before this one say
abbrev pub invariant-loop-value : goal.invariant-loop-value
invariant-loop-value l = l.bounds ≡ map (bound_in (names_in l.types)) (map view (take l.value-index l.list))
