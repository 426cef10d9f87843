-- The ends of an ascending list of intervals are its least and its greatest number.
use Rattle.std.proofs.Common.{◌≡◌, suc, ◌-◌, ◌∙◌, ap, sym, false, ◌&&◌, List, [], ◌∷◌, length, Some, inl, inr, ℤ, pos, arith}
use Rattle.std.specs.Prelude.{IsTrue, int_le, int_lt, ◌≤ℤ◌, ◌+ℤ◌, slice_get}
use Rattle.std.specs.List.{list_all}
use Rattle.std.proofs.lemmas.Int.{ints}
use Rattle.std.proofs.lemmas.Bool.{and_parts, and_from, or_cases, or_left, or_right, false≢true}
use Rattle.std.proofs.lemmas.Option.{same_Some, none-some}
use Rattle.domain_store.specs.declared.interval.Interval.{Interval}
use Rattle.domain_store.specs.Intervals.{is_inside, is_in_one, is_apart, ascend_apart, are_intervals, IsLeastNumber, IsGreatestNumber}
use Rattle.domain_store.specs.steps.Ends.{low_of, high_of}

pub le-refl : (a : ℤ) → IsTrue (int_le a a)
le-refl a = grind (arith, ints)

pub inside_parts : (r : Interval) (v : ℤ) → IsTrue (is_inside r v) → IsTrue (int_le r.low v) × IsTrue (int_le v r.high)
inside_parts r v h = and_parts (int_le r.low v) (int_le v r.high) h

-- the first interval has a number, those behind it are apart from it, and they ascend
pub in_turn : (r : Interval) (rs : List Interval) → IsTrue (ascend_apart (r ∷ rs))
    → IsTrue (int_le r.low r.high) × IsTrue (list_all (is_apart r) rs) × IsTrue (ascend_apart rs)
in_turn r rs h =
    let both = and_parts (int_le r.low r.high && list_all (is_apart r) rs) (ascend_apart rs) h in
    let front = and_parts (int_le r.low r.high) (list_all (is_apart r) rs) both.0 in
    (front.0, front.1, both.1)

-- what lies in intervals that are apart from one is above it
pub past : (r : Interval) (rs : List Interval) (v : ℤ) → IsTrue (list_all (is_apart r) rs) → IsTrue (is_in_one rs v) → IsTrue (int_lt (r.high +ℤ pos 1) v)
past r [] v all there = absurd (false≢true there)
past r (s ∷ rs) v all there =
    let both = and_parts (is_apart r s) (list_all (is_apart r) rs) all in
    elim (or_cases (is_inside s v) (is_in_one rs v) there) [
      | inl here ↦ above r.high s.low v both.0 (inside_parts s v here).0
      | inr later ↦ past r rs v both.1 later
    ]
  where
    above : (a b v : ℤ) → IsTrue (int_lt (a +ℤ pos 1) b) → IsTrue (int_le b v) → IsTrue (int_lt (a +ℤ pos 1) v)
    above a b v apart from = grind (arith, ints)

to_le : (a b : ℤ) → IsTrue (int_le a b) → a ≤ℤ b
to_le a b h = grind (arith, ints)

before : (a b v : ℤ) → IsTrue (int_le a b) → IsTrue (int_lt (b +ℤ pos 1) v) → a ≤ℤ v
before a b v first second = grind (arith, ints)

pub low_inside : (r : Interval) → IsTrue (int_le r.low r.high) → IsTrue (is_inside r r.low)
low_inside r h = and_from (int_le r.low r.low) (int_le r.low r.high) (le-refl r.low) h

pub high_inside : (r : Interval) → IsTrue (int_le r.low r.high) → IsTrue (is_inside r r.high)
high_inside r h = and_from (int_le r.low r.high) (int_le r.high r.high) h (le-refl r.high)

pub least : (rs : List Interval) → IsTrue (are_intervals rs) → IsLeastNumber rs (low_of rs)
least [] h = absurd (false≢true h)
least (r ∷ rs) h =
    let parts = in_turn r rs h in (
      or_left (is_inside r r.low) (is_in_one rs r.low) (low_inside r parts.0),
      λ u there. elim (or_cases (is_inside r u) (is_in_one rs u) there) [
        | inl here ↦ to_le r.low u (inside_parts r u here).0
        | inr later ↦ before r.low r.high u parts.0 (past r rs u parts.1 later)
      ],
    )

pub greatest : (rs : List Interval) → IsTrue (are_intervals rs) → IsGreatestNumber rs (high_of rs)
greatest [] h = absurd (false≢true h)
greatest (r ∷ []) h =
    let parts = in_turn r [] h in (
      or_left (is_inside r r.high) false (high_inside r parts.0),
      λ u there. elim (or_cases (is_inside r u) false there) [
        | inl here ↦ to_le u r.high (inside_parts r u here).1
        | inr none ↦ absurd (false≢true none)
      ],
    )
greatest (r ∷ s ∷ rs) h =
    let parts = in_turn r (s ∷ rs) h in
    let rest = greatest (s ∷ rs) parts.2 in (
      or_right (is_inside r (high_of (s ∷ rs))) (is_in_one (s ∷ rs) (high_of (s ∷ rs))) rest.0,
      λ u there. elim (or_cases (is_inside r u) (is_in_one (s ∷ rs) u) there) [
        | inl here ↦ before u r.high (high_of (s ∷ rs)) (inside_parts r u here).1 (past r (s ∷ rs) (high_of (s ∷ rs)) parts.1 rest.0)
        | inr later ↦ rest.1 u later
      ],
    )

-- the interval at the last place
pub high_read : (rs : List Interval) (y : Interval) → slice_get rs (length rs - 1) ≡ Some y → high_of rs ≡ y.high
high_read [] y at = absurd (none-some y at)
high_read (r ∷ []) y at = ap (λ s. s.high) (same_Some r y at)
high_read (r ∷ s ∷ rs) y at =
    let here : suc (suc (length rs)) - 1 ≡ suc (length rs) = omega arith in
    let next : suc (length rs) - 1 ≡ length rs = omega arith in
    high_read (s ∷ rs) y (ap (λ n. slice_get (s ∷ rs) n) next ∙ (ap (λ n. slice_get (r ∷ s ∷ rs) n) (sym here) ∙ at))
