-- Sums over instances: what made ones add, and what those add that are not made yet.
use Rattle.std.specs.Prelude.{ℕ, ℤ, pos, ◌*ℤ◌, int_le, int_lt, List, [], ◌++◌, map, if◌then◌else◌}
use Rattle.std.specs.Int.{int_min, int_max}
use Rattle.std.specs.Ordering.{int_eq}
use Rattle.config_value.specs.declared.literal.Literal.{Literal}
use Rattle.state_values.specs.Kleene.{Kleene, True, False, Open}
use Rattle.state_values.specs.Ranges.{End, Range, range_sum, ranges_sum}

-- What one made instance adds to a sum, where it is counted in it: a number from low to high, as
-- the state has it, and from least to greatest in every configuration. `at_least n` are literals
-- that show that a counted one adds n or more, and `at_most n` that it adds n or less.
pub record Share : Type 0 where
  pub counted : Kleene
  pub low : ℤ
  pub high : ℤ
  pub least : ℤ
  pub greatest : ℤ
  pub at_least : ℤ → List Literal
  pub at_most : ℤ → List Literal

-- what shows that a counted one adds n or more; nothing where every one does
abbrev pub shows_low : Share → ℤ → List Literal
shows_low s n = if int_le n s.least then [] else s.at_least n

-- what shows that a counted one adds n or less
abbrev pub shows_high : Share → ℤ → List Literal
shows_high s n = if int_le s.greatest n then [] else s.at_most n

-- the low where it is counted, the less of that and 0 where that is open, and else 0
abbrev pub share_low : Share → End
share_low s = elim s.counted [
  | True by ↦ record {
    number = s.low;
    by = if int_lt (pos 0) s.low then by ++ shows_low s s.low else shows_low s s.low;
  }
  | False by ↦ record { number = pos 0; by = if int_le (pos 0) s.least then [] else by }
  | Open ↦ record {
    number = int_min (pos 0) s.low;
    by = shows_low s (int_min (pos 0) s.low);
  }
]

-- the same with the high and the greater
abbrev pub share_high : Share → End
share_high s = elim s.counted [
  | True by ↦ record {
    number = s.high;
    by = if int_lt s.high (pos 0) then by ++ shows_high s s.high else shows_high s s.high;
  }
  | False by ↦ record { number = pos 0; by = if int_le s.greatest (pos 0) then [] else by }
  | Open ↦ record {
    number = int_max (pos 0) s.high;
    by = shows_high s (int_max (pos 0) s.high);
  }
]

-- both ends
abbrev pub share_range : Share → Range
share_range s = record { low = share_low s; high = share_high s }

-- What instances that aren't made yet add to a sum: from fewest to most of them add a number from
-- low to high each. `more` are literals that show that there are no fewer of them than fewest, and
-- `fewer` that there are no more than most.
pub record Rest : Type 0 where
  pub fewest : ℕ
  pub most : ℕ
  pub low : ℤ
  pub high : ℤ
  pub more : List Literal
  pub fewer : List Literal

-- What shows an end of a sum in which each adds n: nothing where n is 0, since their number doesn't
-- matter then; the first literals where it is above 0, and the second where it is below.
abbrev pub by_sign : ℤ → List Literal → List Literal → List Literal
by_sign n above below =
    if int_eq n (pos 0) then [] else (if int_lt (pos 0) n then above else below)

-- what they add together
abbrev pub rest_range : Rest → Range
rest_range r = record {
  low = record {
    number = int_min (pos r.fewest *ℤ r.low) (pos r.most *ℤ r.low);
    by = by_sign r.low r.more r.fewer;
  };
  high = record {
    number = int_max (pos r.fewest *ℤ r.high) (pos r.most *ℤ r.high);
    by = by_sign r.high r.fewer r.more;
  };
}

-- what all made instances and the rest add
abbrev pub tally : List Share → Rest → Range
tally shares rest = range_sum (ranges_sum (map share_range shares)) (rest_range rest)
