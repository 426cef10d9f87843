-- Types whose parents are types, and none of which is its own ancestor.
use Rattle.std.specs.Prelude.{◌≡◌, ℕ, ◌<◌, ◌==◌, false, List, [], length, map, slice_index_or, Some}
use Rattle.std.specs.List.{list_any}
use Rattle.base_laws.specs.Places.{IsAt}
use Rattle.prod_model.specs.declared.model.TypeDecl.{TypeDecl}
use Rattle.prod_model.specs.Forest.{ancestors}
use Rattle.type_taxonomy.specs.declared.entry.Entry.{Entry}
use Rattle.type_taxonomy.specs.steps.Entries.{named, placed_of}

-- each parent is a type, and no type is its own ancestor
pub record IsForest (types : List TypeDecl) : Type 0 where
  pub known : (t p : ℕ) (d : TypeDecl) → IsAt types t d → d.parent ≡ Some p → p < length types
  pub no_cycle : (t : ℕ) → list_any (λ u. u == t) (ancestors types t) ≡ false

-- There is a row for each type, and those of these types are done.
pub record HasRows {D : Type 0} (declared : TypeDecl → List D) (name_of : D → List ℕ)
    (types : List TypeDecl) (IsDone : ℕ → Type 0) (rows : List (List (Entry D))) : Type 0 where
  pub each : length rows ≡ length types
  pub done : (t : ℕ) → t < length types → IsDone t
      → map (named name_of) (slice_index_or rows t []) ≡ placed_of declared name_of types t
