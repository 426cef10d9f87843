-- The tests of each value of a file by itself: its kind, its length, its form, its limits, and the
-- type that it names.
use Rattle.std.specs.Prelude.{ℕ, ℤ, pos, negsuc, Bool, true, false, ◌&&◌, nat_le, int_le, List, length, sum_by}
use Rattle.std.specs.List.{list_any}
use Rattle.serde_json.specs.Data.{Data}
use Rattle.prod_model.specs.Limits.{is_between, is_within, farthest_end, most_instances, most_links, most_types, most_attribute_declarations, most_port_declarations, most_words, most_rules, most_bounds, most_requests, most_criteria}
use Rattle.prod_model.specs.Names.{is_name, is_word, same_text}
use Rattle.file_values.specs.declared.format.Format.{Format}
use Rattle.file_values.specs.declared.kind.Key.{Key}
use Rattle.file_values.specs.declared.kind.Key.TheVariants as key
use Rattle.file_values.specs.declared.kind.Kind.{Kind}
use Rattle.file_values.specs.declared.kind.Kind.TheVariants.{Types, Words, Range, Links, Bounds, Rules, Requests, Criteria, End, Count, Instances, Name, TypeName, InverseName, Word}
use Rattle.file_values.specs.declared.test.Test.{Test}
use Rattle.file_values.specs.declared.test.Test.TheVariants.{Kinds, Lengths, Forms, Limits, Known}
use Rattle.file_values.specs.Kinds.{is_right}
use Rattle.file_values.specs.Read.{items_in, text_in, whole_in, low_in, high_in, items_at}

-- how many declarations the types have in this member
abbrev pub declarations : Key → List Data → ℕ
declarations k types = sum_by (λ t. length (items_at k t)) types

-- the array has at most so many values
abbrev pub is_at_most : ℕ → Data → Bool
is_at_most most d = nat_le (length (items_in d)) most

-- No list is longer than its limit, one of words isn't empty, and the types have at most 256
-- attributes and 256 ports.
unfoldable pub is_short : Kind → Data → Bool
is_short Types d =
    is_at_most most_types d
    && nat_le (declarations key.Attributes (items_in d)) most_attribute_declarations
    && nat_le (declarations key.Ports (items_in d)) most_port_declarations
is_short Bounds d = is_at_most most_bounds d
is_short Rules d = is_at_most most_rules d
is_short Requests d = is_at_most most_requests d
is_short Criteria d = is_at_most most_criteria d
is_short Words d = is_between 1 most_words (length (items_in d))
is_short kind d = true

-- A name has the form of a name, and a word that of a word.
unfoldable pub is_formed : Kind → Data → Bool
is_formed Name d = is_name (text_in d)
is_formed TypeName d = is_name (text_in d)
is_formed InverseName d = is_name (text_in d)
is_formed Word d = is_word (text_in d)
is_formed kind d = true

-- a whole number from low to high
abbrev pub is_count_between : ℕ → ℕ → ℤ → Bool
is_count_between low high (pos n) = is_between low high n
is_count_between low high (negsuc n) = false

-- A number is within its limits, and no pair has its low above its high.
unfoldable pub is_in_limits : Kind → Data → Bool
is_in_limits Instances d = is_count_between 1 most_instances (whole_in d)
is_in_limits End d = is_within farthest_end (whole_in d)
is_in_limits Count d = is_count_between 0 most_links (whole_in d)
is_in_limits Range d = int_le (low_in d) (high_in d)
is_in_limits Links d = int_le (low_in d) (high_in d)
is_in_limits kind d = true

-- where a type is named, one of these names stands
unfoldable pub is_known : List (List ℕ) → Kind → Data → Bool
is_known names TypeName d = list_any (λ n. same_text n (text_in d)) names
is_known names kind d = true

-- the value passes the test
abbrev pub passes : Test → Format → Kind → Data → Bool
passes Kinds format = is_right format
passes Lengths format = is_short
passes Forms format = is_formed
passes Limits format = is_in_limits
passes (Known names) format = is_known names.now
