use Rattle.std.proofs.Common.{map, take}
use Rattle.serde_json.specs.View.{view}
use Rattle.file_values.specs.declared.kind.Key.TheVariants.{Name}
use Rattle.file_values.specs.Read.{text_at}
use Rattle.model_reader.specs.steps.KnownPass.{HasNamesOf}
use Rattle.model_reader.proofs.known.type_names.Given as goal

-- the names so far are those of the types so far
abbrev pub invariant-loop-value : goal.invariant-loop-value
invariant-loop-value l = HasNamesOf (map (text_at Name) (map view (take l.value-index l.types))) l.names
