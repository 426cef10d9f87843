-- The values of a file, each with its kind and its place, and those that fail a test.
use Rattle.std.specs.Prelude.{◌≡◌, ℕ, Bool, IsFalse, List, [], ◌∷◌, Option, Some, None}
use Rattle.serde_json.specs.Data.{Data}
use Rattle.serde_json.specs.Find.{get}
use Rattle.base_laws.specs.Places.{IsAt}
use Rattle.prod_model.specs.First.{IsFirst}
use Rattle.file_values.specs.declared.part.Part.{Part}
use Rattle.file_values.specs.declared.part.Part.TheVariants.{At as at}
use Rattle.file_values.specs.declared.format.Format.{Format}
use Rattle.file_values.specs.declared.kind.Kind.{Kind}
use Rattle.file_values.specs.declared.kind.Member.{Member}
use Rattle.file_values.specs.Places.{text_of, under, IsPlaceBefore}
use Rattle.file_values.specs.Read.{items_in}
use Rattle.file_values.specs.Table.{members_of, item_of}

-- A value of a kind has in it, at a place, a value of a kind: itself, one in a member, or one in a
-- member of a list.
pub data IsInside (format : Format) : Kind → Data → List Part → Kind → Data → Type 0 where
  itself : {k : Kind} {d : Data} → IsInside format k d [] k d
  in_member : {k : Kind} {d : Data} (i : ℕ) (m : Member) → IsAt (members_of format k) i m
      → (e : Data) → get (text_of m.key) d ≡ Some e
      → {place : List Part} {l : Kind} {f : Data} → IsInside format m.kind e place l f
      → IsInside format k d (under m.key ∷ place) l f
  in_item : {k : Kind} {d : Data} (j : Kind) → item_of k ≡ Some j
      → (i : ℕ) (e : Data) → IsAt (items_in d) i e
      → {place : List Part} {l : Kind} {f : Data} → IsInside format j e place l f
      → IsInside format k d (at i ∷ place) l f

-- a value in it fails the test, and stands at this place
pub record FailsAt (format : Format) (passes : Kind → Data → Bool) (k : Kind) (d : Data)
    (place : List Part) : Type 0 where
  pub kind : Kind
  pub value : Data
  pub inside : IsInside format k d place kind value
  pub fails : IsFalse (passes kind value)

-- the first of the places, or nothing where there is none
abbrev pub Finds : (List Part → Type 0) → Option (List Part) → Type 0
Finds Is None = (place : List Part) → ¬ Is place
Finds Is (Some place) = IsFirst Is IsPlaceBefore place
