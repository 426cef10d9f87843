-- The texts of a value that have to differ, as they are gone through: those of one list, and then
-- those of another one.
use Rattle.std.specs.Prelude.{ℕ, List, [], ◌∷◌, ◌++◌, map, Option, Some, None}
use Rattle.std.specs.List.{enumerate_from}
use Rattle.serde_json.specs.Data.{Data}
use Rattle.serde_json.specs.View.{view}
use Rattle.file_values.specs.declared.part.Part.{Part}
use Rattle.file_values.specs.declared.part.Part.TheVariants.{At as at}
use Rattle.file_values.specs.declared.kind.Key.{Key}
use Rattle.file_values.specs.declared.group.Group.{Group}
use Rattle.file_values.specs.declared.group.Listed.{Listed}
use Rattle.file_values.specs.Places.{under}
use Rattle.file_values.specs.Read.{text_in, text_at}
use Rattle.file_values.specs.Twice.{Placed}

-- the step to a member, or none
abbrev pub step_by : Option Key → List Part
step_by None = []
step_by (Some k) = under k ∷ []

-- the text of a member, or that of the value itself
abbrev pub text_by : Option Key → Data → List ℕ
text_by None d = text_in d
text_by (Some k) d = text_at k d

-- the texts of these values, which stand in a list
abbrev pub listed_in : Option Key → Option Key → List Data → List Placed
listed_in list text ds =
    map (λ p. record { text = text_by text p.1; place = step_by list ++ at p.0 ∷ step_by text })
    (enumerate_from 0 ds)

abbrev pub listed : Listed → List Placed
listed l = listed_in l.list l.text (map view l.items.now)

abbrev pub grouped : Group → List Placed
grouped g = listed g.first ++ listed g.second
