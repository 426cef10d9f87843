-- Between which numbers a number lies (interval arithmetic, Moore 1966). Each of the two ends comes
-- with the literals that show it.
use Rattle.std.specs.Prelude.{ℤ, pos, negsuc, ◌+ℤ◌, ◌-ℤ◌, ◌*ℤ◌, int_le, int_lt, List, [], ◌∷◌, ◌++◌, if◌then◌else◌, Some}
use Rattle.std.specs.declared.option.Option.{Option}
use Rattle.std.specs.Int.{int_min, int_max}
use Rattle.prod_model.specs.declared.expr.Relation.{Relation}
use Rattle.prod_model.specs.declared.expr.Relation.TheVariants.{Less, AtMost, Equal, Differs, AtLeast, Greater}
use Rattle.prod_model.specs.declared.expr_bounds.Bounds.{Bounds}
use Rattle.prod_model.specs.declared.expr_bounds.Bounds.TheVariants as bounds
use Rattle.config_value.specs.declared.literal.Literal.{Literal}
use Rattle.state_values.specs.Kleene.{Kleene, True, False, Open, negated, both}

-- an end of a range, and the literals that show it
pub record End : Type 0 where
  pub number : ℤ
  pub by : List Literal

-- the low says "this or more", and the high "this or less"
pub record Range : Type 0 where
  pub low : End
  pub high : End

-- an end that nothing needs to show
abbrev pub plain : ℤ → End
plain n = record { number = n; by = [] }

-- one number
abbrev pub exactly : ℤ → Range
exactly n = record { low = plain n; high = plain n }

-- ---- operators, by the rules of bounds

-- the sum of two ends
abbrev pub end_sum : End → End → End
end_sum a b = record { number = a.number +ℤ b.number; by = a.by ++ b.by }

-- the difference of two ends
abbrev pub end_difference : End → End → End
end_difference a b = record { number = a.number -ℤ b.number; by = a.by ++ b.by }

-- a multiple of an end
abbrev pub end_multiple : ℤ → End → End
end_multiple k a = record { number = k *ℤ a.number; by = a.by }

-- the sum of two ranges
abbrev pub range_sum : Range → Range → Range
range_sum r s = record { low = end_sum r.low s.low; high = end_sum r.high s.high }

-- the sum of all ranges
abbrev pub ranges_sum : List Range → Range
ranges_sum [] = exactly (pos 0)
ranges_sum (r ∷ rs) = range_sum r (ranges_sum rs)

-- the difference of two ranges: low less high, and high less low
abbrev pub range_difference : Range → Range → Range
range_difference r s = record {
  low = end_difference r.low s.high;
  high = end_difference r.high s.low;
}

-- a multiple of a range: a factor below 0 turns the ends round
abbrev pub range_multiple : ℤ → Range → Range
range_multiple (pos k) r = record {
  low = end_multiple (pos k) r.low;
  high = end_multiple (pos k) r.high;
}
range_multiple (negsuc k) r = record {
  low = end_multiple (negsuc k) r.high;
  high = end_multiple (negsuc k) r.low;
}

-- Each end is brought to the nearest number within the bounds. These hold everywhere: an end that
-- is one of them needs nothing to show it.
abbrev pub clamped : Option Bounds → Range → Range
clamped (Some (bounds.Number a b)) r = record {
  low = record {
    number = int_max a (int_min b r.low.number);
    by = if int_le r.low.number a then [] else r.low.by;
  };
  high = record {
    number = int_min b (int_max a r.high.number);
    by = if int_le b r.high.number then [] else r.high.by;
  };
}
clamped _ r = r

-- ---- comparisons: true where they hold of every two numbers of the ranges, false where of none

-- each number of the first is less than each of the second, or none is
abbrev pub is_before : Range → Range → Kleene
is_before r s =
    if int_lt r.high.number s.low.number then True (r.high.by ++ s.low.by)
    else (if int_le s.high.number r.low.number then False (r.low.by ++ s.high.by) else Open)

-- each number of the first is at most each of the second, or none is
abbrev pub is_not_after : Range → Range → Kleene
is_not_after r s = negated (is_before s r)

-- both are the same one number, or they have none in common
abbrev pub is_equal : Range → Range → Kleene
is_equal r s = both (is_not_after r s) (is_not_after s r)

-- the ranges stand so to each other
abbrev pub compared : Relation → Range → Range → Kleene
compared Less r s = is_before r s
compared AtMost r s = is_not_after r s
compared Equal r s = is_equal r s
compared Differs r s = negated (is_equal r s)
compared AtLeast r s = is_not_after s r
compared Greater r s = is_before s r
