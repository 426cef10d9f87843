-- The names of types that stand in values.
use Rattle.std.specs.Prelude.{ℕ, Bool, List, map}
use Rattle.serde_json.specs.View.{view}
use Rattle.serde_json.specs.declared.value.Value.{Value}
use Rattle.file_values.specs.declared.kind.Key.TheVariants as key
use Rattle.file_values.specs.Read.{text_at}
use Rattle.prod_model.specs.Names.{same_text}

-- the names of the values of a list
abbrev pub names_in : List Value → List (List ℕ)
names_in types = map (text_at key.Name) (map view types)

-- the value has this name
abbrev pub is_named : List ℕ → Value → Bool
is_named name v = same_text (text_at key.Name (view v)) name
