-- Declarations by name.
use Rattle.std.specs.Prelude.{ℕ, List, Option}
use Rattle.std.specs.Borrow.{Bor}
use Rattle.std.specs.Option.{option_map}
use Rattle.std.specs.List.{find}
use Rattle.indexmap.specs.IndexMap.{IndexMap, get_by}
use Rattle.prod_model.specs.Names.{same_text}
use Rattle.type_taxonomy.specs.declared.by_name.Found.{Found}

-- the declaration that the map has under the name, with its height
abbrev pub found : {D S : Type 0} → IndexMap (Bor (List ℕ)) (Found D) S → List ℕ → Option (ℕ × D)
found m name = option_map (λ f. (f.height, f.declared.now)) (get_by (λ k. same_text name k.now) m)

-- the first of these declarations that has the name, with this height
abbrev pub found_at : {D : Type 0} → (D → List ℕ) → ℕ → List D → List ℕ → Option (ℕ × D)
found_at name_of height ds name =
    option_map (λ d. (height, d)) (find (λ d. same_text (name_of d) name) ds)
