-- Names that stand twice.
use Rattle.std.specs.Prelude.{◌≡◌, ℕ, ◌<◌, IsTrue, List, [], ◌∷◌, ◌++◌, map}
use Rattle.std.specs.List.{enumerate_from}
use Rattle.serde_json.specs.Data.{Data}
use Rattle.base_laws.specs.Places.{IsAt}
use Rattle.prod_model.specs.Names.{same_text}
use Rattle.file_values.specs.declared.part.Part.{Part}
use Rattle.file_values.specs.declared.part.Part.TheVariants.{At as at}
use Rattle.file_values.specs.declared.format.Format.{Format}
use Rattle.file_values.specs.declared.kind.Key.{Key}
use Rattle.file_values.specs.declared.kind.Key.TheVariants as key
use Rattle.file_values.specs.declared.kind.Kind.{Kind}
use Rattle.file_values.specs.declared.kind.Kind.TheVariants.{Types, TypeDecl, Words, Bounds, Rules, Requests, Criteria}
use Rattle.file_values.specs.Places.{under}
use Rattle.file_values.specs.Inside.{IsInside}
use Rattle.file_values.specs.Read.{items_in, text_in, text_at, items_at}

-- a text, with its place in the value
pub record Placed : Type 0 where
  pub text : List ℕ
  pub place : List Part

-- The texts of this member of each value of a list. The list is the value itself, or stands in the
-- member that `list` leads to.
abbrev pub texts_of : Key → List Part → List Data → List Placed
texts_of k list ds =
    map (λ p. record { text = text_at k p.1; place = list ++ at p.0 ∷ under k ∷ [] })
    (enumerate_from 0 ds)

-- The texts of a value that have to differ, in the order of the document: the names of types, those
-- of one type's attributes and ports together, the words of one list, the types of `bounds`, and
-- the names of rules, of requests and of criteria.
unfoldable pub texts_in : Kind → Data → List Placed
texts_in Types d = texts_of key.Name [] (items_in d)
texts_in TypeDecl d =
    texts_of key.Name (under key.Attributes ∷ []) (items_at key.Attributes d)
    ++ texts_of key.Name (under key.Ports ∷ []) (items_at key.Ports d)
texts_in Words d =
    map (λ p. record { text = text_in p.1; place = at p.0 ∷ [] }) (enumerate_from 0 (items_in d))
texts_in Bounds d = texts_of key.OfType [] (items_in d)
texts_in Rules d = texts_of key.Name [] (items_in d)
texts_in Requests d = texts_of key.Name [] (items_in d)
texts_in Criteria d = texts_of key.Name [] (items_in d)
texts_in kind d = []

-- two of the texts are the same, and the later one stands at this place
pub record IsRepeated (texts : List Placed) (place : List Part) : Type 0 where
  pub i : ℕ
  pub j : ℕ
  pub earlier : Placed
  pub later : Placed
  pub first : IsAt texts i earlier
  pub again : IsAt texts j later
  pub order : i < j
  pub same : IsTrue (same_text earlier.text later.text)
  pub is : place ≡ later.place

-- in the value stands one with two such texts that are the same, the later one at this place
pub record IsTwice (format : Format) (k : Kind) (d : Data) (place : List Part) : Type 0 where
  pub front : List Part
  pub kind : Kind
  pub value : Data
  pub inside : IsInside format k d front kind value
  pub rest : List Part
  pub repeated : IsRepeated (texts_in kind value) rest
  pub is : place ≡ front ++ rest
