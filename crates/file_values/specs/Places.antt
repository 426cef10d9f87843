-- Places in a file: how they are spelled, and their order in the document.
use Rattle.std.specs.Prelude.{ℕ, Bool, true, nat_lt, IsTrue, List, [], ◌∷◌, ◌++◌, length, codes, slice_index_or}
use Rattle.std.specs.List.{list_all, flat_map}
use Rattle.std.specs.Fmt.{decimal}
use Rattle.std.specs.declared.cmp.Ordering.{Ordering}
use Rattle.std.specs.declared.cmp.Ordering.TheVariants.{Less, Greater}
use Rattle.std.specs.Ordering.{nat_cmp, is_lt}
use Rattle.std.specs.Cmp.Lexicographic.{slice_cmp}
use Rattle.file_values.specs.declared.part.Part.{Part}
use Rattle.file_values.specs.declared.part.Part.TheVariants.{Key as key, At as at}
use Rattle.file_values.specs.declared.kind.Key.{Key}
use Rattle.file_values.specs.declared.kind.Key.TheVariants.{Format, Root, Instances, Types, Bounds, Rules, Requests, Criteria, Name, Parent, Attributes, Ports, Range, Words, Kind, Target, Links, OfType, Count, Holds, Minimise, Maximise, Inverse}

-- the list of keys, which numbers them from 0
abbrev pub keys : List (List ℕ)
keys =
    codes "format" ∷ codes "root" ∷ codes "instances" ∷ codes "types" ∷ codes "bounds"
    ∷ codes "rules" ∷ codes "requests" ∷ codes "criteria" ∷ codes "name" ∷ codes "parent"
    ∷ codes "attributes" ∷ codes "ports" ∷ codes "range" ∷ codes "words" ∷ codes "kind"
    ∷ codes "target" ∷ codes "links" ∷ codes "type" ∷ codes "count" ∷ codes "holds"
    ∷ codes "minimise" ∷ codes "maximise" ∷ codes "inverse" ∷ []

-- the number of a key: its place in the list
abbrev pub number_of : Key → ℕ
number_of Format = 0
number_of Root = 1
number_of Instances = 2
number_of Types = 3
number_of Bounds = 4
number_of Rules = 5
number_of Requests = 6
number_of Criteria = 7
number_of Name = 8
number_of Parent = 9
number_of Attributes = 10
number_of Ports = 11
number_of Range = 12
number_of Words = 13
number_of Kind = 14
number_of Target = 15
number_of Links = 16
number_of OfType = 17
number_of Count = 18
number_of Holds = 19
number_of Minimise = 20
number_of Maximise = 21
number_of Inverse = 22

-- the text of a key
abbrev pub text_of : Key → List ℕ
text_of k = slice_index_or keys (number_of k) []

-- a step of a place by key, and by place in an array
abbrev pub under : Key → Part
under k = key (number_of k)

-- ---- the order of places in the document

-- Keys by their numbers, members of an array by their places. No value has both; a key counts as
-- before a place.
abbrev pub part_cmp : Part → Part → Ordering
part_cmp (key m) (key n) = nat_cmp m n
part_cmp (key m) (at n) = Less
part_cmp (at m) (key n) = Greater
part_cmp (at m) (at n) = nat_cmp m n

-- A value comes before what is in it; else the first parts that differ decide.
abbrev pub IsPlaceBefore : List Part → List Part → Type 0
IsPlaceBefore p q = IsTrue (is_lt (slice_cmp part_cmp p q))

-- ---- the text of a place

-- a part that is a place, or the number of a key
abbrev pub is_known_key : Part → Bool
is_known_key (key n) = nat_lt n (length keys)
is_known_key (at n) = true

-- each key number is one of the list
abbrev pub has_known_keys : List Part → Bool
has_known_keys parts = list_all is_known_key parts

-- a key, or a place in decimal digits
abbrev pub part_text : Part → List ℕ
part_text (key n) = slice_index_or keys n []
part_text (at n) = decimal n

-- the parts after the first, each behind a `/`
abbrev pub rest_text : List Part → List ℕ
rest_text parts = flat_map (λ p. codes "/" ++ part_text p) parts

-- `/` and the parts joined with `/`; the whole document is `/`
abbrev pub place_text : List Part → List ℕ
place_text [] = codes "/"
place_text (p ∷ ps) = rest_text (p ∷ ps)
