-- The values that an attribute of an instance may still have: whole numbers in intervals, or words
-- by their places in the attribute's first declaration.
use Rattle.std.specs.Prelude.{ℕ, ◌+◌, ℤ, pos, ◌-ℤ◌, nat_abs, Bool, true, false, not, ◌&&◌, nat_lt, List, [], ◌∷◌, length, None}
use Rattle.std.specs.Ordering.{int_eq}
use Rattle.std.specs.Option.{option_map_or}
use Rattle.std.specs.List.{list_any, list_all, sum_by, last_or}
use Rattle.prod_model.specs.Limits.{most_words}
use Rattle.config_value.specs.Shaped.{ascends}
use Rattle.domain_store.specs.declared.change.Change.{Change}
use Rattle.domain_store.specs.declared.interval.Interval.{Interval}
use Rattle.domain_store.specs.Intervals.{is_in_one, are_intervals}
use Rattle.state_space.specs.Sets.{Reduces}

-- the numbers of ascending intervals, or ascending places of words
pub data Values : Type 0 where
  Numbers : List Interval → Values
  Words : List ℕ → Values

-- the value is one of them
abbrev pub has_value : Values → ℤ → Bool
has_value (Numbers rs) v = is_in_one rs v
has_value (Words ws) v = list_any (λ w. int_eq (pos w) v) ws

-- they are words
abbrev pub has_words : Values → Bool
has_words (Numbers rs) = false
has_words (Words ws) = true

-- the lower end of the first interval; 0 where there is none
abbrev pub low_of : List Interval → ℤ
low_of [] = pos 0
low_of (r ∷ rs) = r.low

-- the upper end of the last interval; 0 where there is none
abbrev pub high_of : List Interval → ℤ
high_of rs = option_map_or (λ r. r.high) (last_or None rs) (pos 0)

-- the least of the values; 0 where there is none
abbrev pub least : Values → ℤ
least (Numbers rs) = low_of rs
least (Words []) = pos 0
least (Words (w ∷ ws)) = pos w

-- the greatest of the values; 0 where there is none
abbrev pub greatest : Values → ℤ
greatest (Numbers rs) = high_of rs
greatest (Words ws) = option_map_or pos (last_or None ws) (pos 0)

-- how many numbers lie in the interval
abbrev pub width : Interval → ℕ
width r = nat_abs (r.high -ℤ r.low) + 1

-- how many values there are
abbrev pub count_of : Values → ℕ
count_of (Numbers rs) = sum_by width rs
count_of (Words ws) = length ws

-- there is none
abbrev pub is_empty : List ℕ → Bool
is_empty [] = true
is_empty (w ∷ ws) = false

-- There is a value, and they stand in order. Places of words are below 64.
abbrev pub are_values : Values → Bool
are_values (Numbers rs) = are_intervals rs
are_values (Words ws) =
    not (is_empty ws) && ascends ws && list_all (λ w. nat_lt w most_words) ws

-- a narrowing of an attribute's values
abbrev pub NarrowsValues : (ℤ → Bool) → Change → Values → Values → Type 0
NarrowsValues = Reduces has_value count_of
