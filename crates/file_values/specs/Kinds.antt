-- Whether a value is of its kind.
use Rattle.std.specs.Prelude.{ℕ, Bool, true, false, not, ◌&&◌, ◌||◌, ◌==◌, List, [], ◌∷◌, map, length, codes, is_some, count_by}
use Rattle.std.specs.Option.{option_map_or}
use Rattle.std.specs.List.{list_all, list_any}
use Rattle.serde_json.specs.Data.{Data, Members, no_members, member}
use Rattle.serde_json.specs.Find.{get, as_str, as_array, as_object}
use Rattle.prod_model.specs.Names.{same_text}
use Rattle.file_values.specs.declared.format.Format.{Format}
use Rattle.file_values.specs.declared.kind.Kind.{Kind}
use Rattle.file_values.specs.declared.kind.Kind.TheVariants.{Types, Attributes, Ports, Bounds, Rules, Requests, Criteria, Words, Range, Links, End, Count, Instances, ModelFormat, OrderFormat, PortKind, Name, TypeName, InverseName, Word, Expression}
use Rattle.file_values.specs.declared.kind.Need.{Need}
use Rattle.file_values.specs.declared.kind.Need.TheVariants.{Must, Either}
use Rattle.file_values.specs.declared.kind.Member.{Member}
use Rattle.file_values.specs.Places.{text_of}
use Rattle.file_values.specs.Table.{members_of}
use Rattle.file_values.specs.Read.{items_in, whole_number}

-- the member stands in the value
abbrev pub is_present : Data → Member → Bool
is_present d m = is_some (get (text_of m.key) d)

-- a member that may not lack
abbrev pub has_to_stand : Need → Bool
has_to_stand Must = true
has_to_stand _ = false

-- a member that excludes another
abbrev pub is_exclusive : Need → Bool
is_exclusive Either = true
is_exclusive _ = false

-- of the members that exclude each other exactly one stands
abbrev pub has_one_of : List Member → Data → Bool
has_one_of ms d =
    not (list_any (λ m. is_exclusive m.need) ms)
    || (count_by (λ m. is_exclusive m.need && is_present d m) ms == 1)

-- members with none but the listed keys
abbrev pub has_only_keys : List (List ℕ) → Members → Bool
has_only_keys listed no_members = true
has_only_keys listed (member k d ms) = list_any (same_text k) listed && has_only_keys listed ms

-- an object with none but the listed keys
abbrev pub has_only : List (List ℕ) → Data → Bool
has_only listed d = option_map_or (has_only_keys listed) (as_object d) false

-- an object with none but these members, all that have to stand, and one of those that exclude each
-- other
abbrev pub has_members : List Member → Data → Bool
has_members ms d =
    has_only (map (λ m. text_of m.key) ms) d
    && list_all (λ m. not (has_to_stand m.need) || is_present d m) ms && has_one_of ms d

-- the value is a text
abbrev pub is_text : Data → Bool
is_text d = is_some (as_str d)

-- one of these texts
abbrev pub is_one_of : List (List ℕ) → Data → Bool
is_one_of texts d = option_map_or (λ s. list_any (same_text s) texts) (as_str d) false

-- the value is an array
abbrev pub is_list : Data → Bool
is_list d = is_some (as_array d)

-- the value is a whole number
abbrev pub is_whole : Data → Bool
is_whole d = is_some (whole_number d)

-- an array of two whole numbers
abbrev pub is_pair : Data → Bool
is_pair d = (length (items_in d) == 2) && list_all is_whole (items_in d)

-- The value itself is of the kind; what is in it isn't tested here.
unfoldable pub is_right : Format → Kind → Data → Bool
is_right format Types d = is_list d
is_right format Attributes d = is_list d
is_right format Ports d = is_list d
is_right format Bounds d = is_list d
is_right format Rules d = is_list d
is_right format Requests d = is_list d
is_right format Criteria d = is_list d
is_right format Words d = is_list d
is_right format Range d = is_pair d
is_right format Links d = is_pair d
is_right format End d = is_whole d
is_right format Count d = is_whole d
is_right format Instances d = is_whole d
is_right format ModelFormat d =
    is_one_of (codes "product-model 1" ∷ codes "product-model 2" ∷ []) d
is_right format OrderFormat d = is_one_of (codes "order 1" ∷ []) d
is_right format PortKind d = is_one_of (codes "part" ∷ codes "use" ∷ []) d
is_right format Name d = is_text d
is_right format TypeName d = is_text d
is_right format InverseName d = is_text d
is_right format Word d = is_text d
is_right format Expression d = true
is_right format kind d = has_members (members_of format kind) d
