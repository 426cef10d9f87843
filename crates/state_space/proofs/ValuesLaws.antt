-- The least and the greatest value of a domain.
use Rattle.std.proofs.Common.{◌≡◌, ℕ, ◌<◌, false, ◌&&◌, List, [], ◌∷◌, refl, subst, inl, inr, ℤ, pos, arith, ltb-true}
use Rattle.std.specs.Prelude.{IsTrue, int_le, int_lt, nat_lt, ◌+ℤ◌}
use Rattle.std.specs.Ordering.{int_eq}
use Rattle.std.specs.List.{list_all}
use Rattle.std.proofs.lemmas.Int.{ints}
use Rattle.std.proofs.lemmas.Bool.{and_parts, and_from, or_cases, or_left, or_right, false≢true}
use Rattle.std.specs.Cmp.{signed_Decides}
use Rattle.config_value.specs.Shaped.{ascends}
use Rattle.domain_store.specs.declared.interval.Interval.{Interval}
use Rattle.state_space.specs.Values.{Values, Numbers, Words, has_value, least, greatest, are_values}
use Rattle.domain_store.specs.Intervals.{is_inside, is_in_one, is_apart, ascend_apart, are_intervals}

-- ---- tests of numbers

pub le-refl : (a : ℤ) → IsTrue (int_le a a)
le-refl a = grind (arith, ints)

pub le-trans : (a b c : ℤ) → IsTrue (int_le a b) → IsTrue (int_le b c) → IsTrue (int_le a c)
le-trans a b c first second = grind (arith, ints)

-- what lies past the number after another is above it
le-past : (a b : ℤ) → IsTrue (int_lt (a +ℤ pos 1) b) → IsTrue (int_le a b)
le-past a b past = grind (arith, ints)

-- ---- intervals

inside_parts : (r : Interval) (v : ℤ) → IsTrue (is_inside r v) → IsTrue (int_le r.low v) × IsTrue (int_le v r.high)
inside_parts r v h = and_parts (int_le r.low v) (int_le v r.high) h

-- the ends of the first of some intervals are in order
in_order : (r : Interval) (rs : List Interval) → IsTrue (are_intervals (r ∷ rs)) → IsTrue (int_le r.low r.high)
in_order r rs h = (and_parts _ _ (and_parts (int_le r.low r.high && list_all (is_apart r) rs) (ascend_apart rs) h).0).0

-- the ends of an interval are in order, the next one is above it, and those from there on are intervals
in_turn : (r s : Interval) (rs : List Interval) → IsTrue (are_intervals (r ∷ s ∷ rs)) → IsTrue (int_le r.low r.high) × IsTrue (int_le r.high s.low) × IsTrue (are_intervals (s ∷ rs))
in_turn r s rs h =
    let both = and_parts (int_le r.low r.high && list_all (is_apart r) (s ∷ rs)) (ascend_apart (s ∷ rs)) h in
    let front = and_parts (int_le r.low r.high) (list_all (is_apart r) (s ∷ rs)) both.0 in
    (front.0, le-past r.high s.low (and_parts (is_apart r s) (list_all (is_apart r) rs) front.1).0, both.1)

-- the low end of the first interval is at most the high end of the last one
low-le-greatest : (r : Interval) (rs : List Interval) → IsTrue (are_intervals (r ∷ rs)) → IsTrue (int_le r.low (greatest (Numbers (r ∷ rs))))
low-le-greatest r [] h = in_order r [] h
low-le-greatest r (s ∷ rs) h =
    let parts = in_turn r s rs h in
    le-trans r.low r.high _ parts.0 (le-trans r.high s.low _ parts.1 (low-le-greatest s rs parts.2))

numbers-le-greatest : (rs : List Interval) (v : ℤ) → IsTrue (are_intervals rs) → IsTrue (is_in_one rs v) → IsTrue (int_le v (greatest (Numbers rs)))
numbers-le-greatest [] v h there = absurd (false≢true there)
numbers-le-greatest (r ∷ []) v h there = elim (or_cases (is_inside r v) false there) [
  | inl here ↦ (inside_parts r v here).1
  | inr none ↦ absurd (false≢true none)
]
numbers-le-greatest (r ∷ s ∷ rs) v h there =
    let parts = in_turn r s rs h in
    elim (or_cases (is_inside r v) (is_in_one (s ∷ rs) v) there) [
      | inl here ↦ le-trans v r.high _ (inside_parts r v here).1 (le-trans r.high s.low _ parts.1 (low-le-greatest s rs parts.2))
      | inr later ↦ numbers-le-greatest (s ∷ rs) v parts.2 later
    ]

least-le-numbers : (r : Interval) (rs : List Interval) (v : ℤ) → IsTrue (are_intervals (r ∷ rs)) → IsTrue (is_in_one (r ∷ rs) v) → IsTrue (int_le r.low v)
least-le-numbers r [] v h there = elim (or_cases (is_inside r v) false there) [
  | inl here ↦ (inside_parts r v here).0
  | inr none ↦ absurd (false≢true none)
]
least-le-numbers r (s ∷ rs) v h there =
    let parts = in_turn r s rs h in
    elim (or_cases (is_inside r v) (is_in_one (s ∷ rs) v) there) [
      | inl here ↦ (inside_parts r v here).0
      | inr later ↦ le-trans r.low r.high v parts.0 (le-trans r.high s.low v parts.1 (least-le-numbers s rs v parts.2 later))
    ]

least-in-numbers : (r : Interval) (rs : List Interval) → IsTrue (are_intervals (r ∷ rs)) → IsTrue (is_in_one (r ∷ rs) r.low)
least-in-numbers r [] h = or_left _ _ (and_from _ _ (le-refl r.low) (in_order r [] h))
least-in-numbers r (s ∷ rs) h = or_left _ _ (and_from _ _ (le-refl r.low) (in_turn r s rs h).0)

greatest-in-numbers : (r : Interval) (rs : List Interval) → IsTrue (are_intervals (r ∷ rs)) → IsTrue (is_in_one (r ∷ rs) (greatest (Numbers (r ∷ rs))))
greatest-in-numbers r [] h = or_left _ _ (and_from _ _ (in_order r [] h) (le-refl r.high))
greatest-in-numbers r (s ∷ rs) h = or_right _ _ (greatest-in-numbers s rs (in_turn r s rs h).2)

-- ---- words

-- the test of one word
word_at : (w : ℕ) (v : ℤ) → IsTrue (int_eq (pos w) v) → pos w ≡ v
word_at w v h = (signed_Decides (pos w) v).0 h

word_from : (w : ℕ) → IsTrue (int_eq (pos w) (pos w))
word_from w = (signed_Decides (pos w) (pos w)).1 refl

le-word : (w u : ℕ) → IsTrue (nat_lt w u) → IsTrue (int_le (pos w) (pos u))
le-word w u h = let less : w < u = ltb-true w u h in grind (arith, ints)

le-same : (a b : ℤ) → a ≡ b → IsTrue (int_le a b)
le-same a b same = subst (λ c. IsTrue (int_le a c)) same (le-refl a)

word-le-greatest : (w : ℕ) (ws : List ℕ) → IsTrue (ascends (w ∷ ws)) → IsTrue (int_le (pos w) (greatest (Words (w ∷ ws))))
word-le-greatest w [] h = le-refl (pos w)
word-le-greatest w (u ∷ ws) h = let both = and_parts _ _ h in le-trans (pos w) (pos u) _ (le-word w u both.0) (word-le-greatest u ws both.1)

words-le-greatest : (w : ℕ) (ws : List ℕ) (v : ℤ) → IsTrue (ascends (w ∷ ws)) → IsTrue (has_value (Words (w ∷ ws)) v) → IsTrue (int_le v (greatest (Words (w ∷ ws))))
words-le-greatest w [] v h there = elim (or_cases (int_eq (pos w) v) false there) [
  | inl here ↦ subst (λ n. IsTrue (int_le n (pos w))) (word_at w v here) (le-refl (pos w))
  | inr later ↦ absurd (false≢true later)
]
words-le-greatest w (u ∷ ws) v h there = elim (or_cases (int_eq (pos w) v) (has_value (Words (u ∷ ws)) v) there) [
  | inl here ↦ subst (λ n. IsTrue (int_le n (greatest (Words (u ∷ ws))))) (word_at w v here) (word-le-greatest w (u ∷ ws) h)
  | inr later ↦ words-le-greatest u ws v (and_parts (nat_lt w u) (ascends (u ∷ ws)) h).1 later
]

least-le-words : (w : ℕ) (ws : List ℕ) (v : ℤ) → IsTrue (ascends (w ∷ ws)) → IsTrue (has_value (Words (w ∷ ws)) v) → IsTrue (int_le (pos w) v)
least-le-words w [] v h there = elim (or_cases (int_eq (pos w) v) false there) [
  | inl here ↦ le-same (pos w) v (word_at w v here)
  | inr later ↦ absurd (false≢true later)
]
least-le-words w (u ∷ ws) v h there = elim (or_cases (int_eq (pos w) v) (has_value (Words (u ∷ ws)) v) there) [
  | inl here ↦ le-same (pos w) v (word_at w v here)
  | inr later ↦ let both = and_parts _ _ h in le-trans (pos w) (pos u) v (le-word w u both.0) (least-le-words u ws v both.1 later)
]

greatest-in-words : (w : ℕ) (ws : List ℕ) → IsTrue (has_value (Words (w ∷ ws)) (greatest (Words (w ∷ ws))))
greatest-in-words w [] = or_left _ _ (word_from w)
greatest-in-words w (u ∷ ws) = or_right _ _ (greatest-in-words u ws)

-- ---- both

words_ascend : (w : ℕ) (ws : List ℕ) → IsTrue (are_values (Words (w ∷ ws))) → IsTrue (ascends (w ∷ ws))
words_ascend w ws h = (and_parts (ascends (w ∷ ws)) (list_all (λ w. nat_lt w 64) (w ∷ ws)) h).0

-- no value is above the greatest one
pub le-greatest : (d : Values) (v : ℤ) → IsTrue (are_values d) → IsTrue (has_value d v) → IsTrue (int_le v (greatest d))
le-greatest (Numbers rs) v h there = numbers-le-greatest rs v h there
le-greatest (Words []) v h there = absurd (false≢true h)
le-greatest (Words (w ∷ ws)) v h there = words-le-greatest w ws v (words_ascend w ws h) there

-- and none below the least one
pub least-le : (d : Values) (v : ℤ) → IsTrue (are_values d) → IsTrue (has_value d v) → IsTrue (int_le (least d) v)
least-le (Numbers []) v h there = absurd (false≢true h)
least-le (Numbers (r ∷ rs)) v h there = least-le-numbers r rs v h there
least-le (Words []) v h there = absurd (false≢true h)
least-le (Words (w ∷ ws)) v h there = least-le-words w ws v (words_ascend w ws h) there

-- the greatest one is one of the values
pub greatest-in : (d : Values) → IsTrue (are_values d) → IsTrue (has_value d (greatest d))
greatest-in (Numbers []) h = absurd (false≢true h)
greatest-in (Numbers (r ∷ rs)) h = greatest-in-numbers r rs h
greatest-in (Words []) h = absurd (false≢true h)
greatest-in (Words (w ∷ ws)) h = greatest-in-words w ws

-- and so is the least one
pub least-in : (d : Values) → IsTrue (are_values d) → IsTrue (has_value d (least d))
least-in (Numbers []) h = absurd (false≢true h)
least-in (Numbers (r ∷ rs)) h = least-in-numbers r rs h
least-in (Words []) h = absurd (false≢true h)
least-in (Words (w ∷ ws)) h = or_left _ _ (word_from w)
