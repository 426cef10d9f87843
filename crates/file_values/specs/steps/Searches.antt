-- What is searched for in the values of a file, and where it is found.
use Rattle.std.specs.Prelude.{◌≡◌, ℕ, IsFalse, List, [], ◌∷◌, ◌++◌, Option, Some, None, if◌then◌else◌}
use Rattle.std.specs.Ordering.{is_lt}
use Rattle.std.specs.Cmp.Lexicographic.{slice_cmp}
use Rattle.serde_json.specs.Data.{Data}
use Rattle.serde_json.specs.Find.{get}
use Rattle.base_laws.specs.Places.{IsAt}
use Rattle.file_values.specs.declared.part.Part.{Part}
use Rattle.file_values.specs.declared.part.Part.TheVariants.{At as at}
use Rattle.file_values.specs.declared.format.Format.{Format}
use Rattle.file_values.specs.declared.kind.Kind.{Kind}
use Rattle.file_values.specs.declared.kind.Member.{Member}
use Rattle.file_values.specs.declared.search.Search.{Search}
use Rattle.file_values.specs.declared.search.Search.TheVariants.{Failing, Twice}
use Rattle.file_values.specs.Places.{text_of, under, part_cmp}
use Rattle.file_values.specs.Inside.{IsInside}
use Rattle.file_values.specs.Tests.{passes}
use Rattle.file_values.specs.Twice.{texts_in, IsRepeated}

-- what is searched for stands at this place of the value by itself, and not by a value in it
abbrev pub stands_in : Search → Format → Kind → Data → List Part → Type 0
stands_in (Failing test) format k d place = (place ≡ []) × IsFalse (passes test format k d)
stands_in Twice format k d place = IsRepeated (texts_in k d) place

-- it stands at this place of the value, or of one in it
pub record IsFound (format : Format) (Own : Kind → Data → List Part → Type 0) (k : Kind) (d : Data)
    (place : List Part) : Type 0 where
  pub front : List Part
  pub kind : Kind
  pub value : Data
  pub inside : IsInside format k d front kind value
  pub rest : List Part
  pub own : Own kind value rest
  pub is : place ≡ front ++ rest

-- the same, in a list of values of one kind
pub record IsFoundInList (format : Format) (Own : Kind → Data → List Part → Type 0) (j : Kind)
    (ds : List Data) (place : List Part) : Type 0 where
  pub i : ℕ
  pub item : Data
  pub there : IsAt ds i item
  pub rest : List Part
  pub is : place ≡ at i ∷ rest
  pub found : IsFound format Own j item rest

-- the same, in the members of an object
pub record IsFoundInMembers (format : Format) (Own : Kind → Data → List Part → Type 0)
    (ms : List Member) (d : Data) (place : List Part) : Type 0 where
  pub i : ℕ
  pub member : Member
  pub listed : IsAt ms i member
  pub value : Data
  pub there : get (text_of member.key) d ≡ Some value
  pub rest : List Part
  pub is : place ≡ under member.key ∷ rest
  pub found : IsFound format Own member.kind value rest

-- the earlier of two places in the document, and the only one where there is one
abbrev pub earlier_of : Option (List Part) → Option (List Part) → Option (List Part)
earlier_of None q = q
earlier_of (Some p) None = Some p
earlier_of (Some p) (Some q) = if is_lt (slice_cmp part_cmp q p) then Some q else Some p
