-- The names that a type has, each where it is declared first.
use Rattle.std.specs.Prelude.{ℕ, List, [], ◌∷◌, ◌++◌, map, reverse, if◌then◌else◌}
use Rattle.std.specs.List.{list_any, flat_map, fold}
use Rattle.prod_model.specs.declared.model.TypeDecl.{TypeDecl}
use Rattle.prod_model.specs.Names.{same_text}
use Rattle.prod_model.specs.Forest.{line}
use Rattle.prod_model.specs.Taxonomy.{declarations_of}

-- with one more name, unless it is among them
abbrev pub with_new : List (List ℕ) → List ℕ → List (List ℕ)
with_new names name = if list_any (same_text name) names then names else names ++ name ∷ []

-- the names that a type declares
abbrev pub names_of : {D : Type 0} → (TypeDecl → List D) → (D → List ℕ) → List TypeDecl → ℕ
    → List (List ℕ)
names_of declared name_of types t = map name_of (declarations_of declared name_of types t)

-- the names that a type has, each once, from the first of its ancestors down to the type
unfoldable pub first_names : {D : Type 0} → (TypeDecl → List D) → (D → List ℕ)
    → List TypeDecl → ℕ → List (List ℕ)
first_names declared name_of types t =
    fold with_new [] (flat_map (names_of declared name_of types) (reverse (line types t)))
