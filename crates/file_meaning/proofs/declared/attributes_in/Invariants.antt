use Rattle.std.proofs.Common.{◌≡◌, map, take}
use Rattle.serde_json.specs.View.{view}
use Rattle.file_meaning.specs.ModelOf.{attribute_in}
use Rattle.file_meaning.proofs.declared.attributes_in.Given as goal

-- what the values before this one say
abbrev pub invariant-loop-value : goal.invariant-loop-value
invariant-loop-value l = l.attributes ≡ map attribute_in (map view (take l.value-index l.list))
