-- What stands in a value. Where it isn't there, the empty list or the empty text stands for it, and
-- 0 stands for a number that isn't whole.
use Rattle.std.specs.Prelude.{ℕ, ℤ, pos, List, [], ◌∷◌, Bool, is_some, slice_index_or}
use Rattle.std.specs.declared.option.Option.{Option}
use Rattle.std.specs.Option.{unwrap_or, option_map_or, option_and_then}
use Rattle.serde_json.specs.Data.{Data, null, Items, no_items, item}
use Rattle.serde_json.specs.Find.{get, as_array, as_str, as_number, as_i64}
use Rattle.file_values.specs.declared.kind.Key.{Key}
use Rattle.file_values.specs.Places.{text_of}

-- ---- in the value itself

-- the text that the value is
abbrev pub text_in : Data → List ℕ
text_in d = unwrap_or (as_str d) []

-- a number that is whole
abbrev pub whole_number : Data → Option ℤ
whole_number d = option_and_then as_i64 (as_number d)

-- the whole number that the value is
abbrev pub whole_in : Data → ℤ
whole_in d = unwrap_or (whole_number d) (pos 0)

-- the values of the items, in order
abbrev pub values_of : Items → List Data
values_of no_items = []
values_of (item d ds) = d ∷ values_of ds

-- the values of an array, and none of what is no array
abbrev pub items_in : Data → List Data
items_in d = option_map_or values_of (as_array d) []

-- the value at a place of an array, and `null` where there is none
abbrev pub item_at : ℕ → Data → Data
item_at i d = slice_index_or (items_in d) i null

-- the ends of a pair
abbrev pub low_in : Data → ℤ
low_in d = whole_in (item_at 0 d)

-- the second one
abbrev pub high_in : Data → ℤ
high_in d = whole_in (item_at 1 d)

-- ---- in its members

-- the value of a member, and `null` where it lacks
abbrev pub member_of : Key → Data → Data
member_of k d = unwrap_or (get (text_of k) d) null

-- the member stands
abbrev pub has : Key → Data → Bool
has k d = is_some (get (text_of k) d)

-- the text of a member
abbrev pub text_at : Key → Data → List ℕ
text_at k d = text_in (member_of k d)

-- the values of a member that is an array; none where it lacks
abbrev pub items_at : Key → Data → List Data
items_at k d = items_in (member_of k d)
