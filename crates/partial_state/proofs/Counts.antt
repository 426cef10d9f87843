-- How many numbers lie in ascending intervals.
use Rattle.std.proofs.Common.{◌≡◌, ℕ, zero, suc, ◌+◌, ◌<◌, ◌≤◌, ◌∙◌, ap, ap₂, sym, ◌||◌, Bool, true, false, cond, refl, inl, inr, List, [], ◌∷◌, ℤ, pos, ◌+ℤ◌, ◌-ℤ◌, ◌≤ℤ◌, ◌<ℤ◌, nat_abs, arith}
use Rattle.std.specs.Prelude.{◌⊎◌, IsTrue, int_le, int_lt}
use Rattle.std.specs.List.{sum_by, list_all}
use Rattle.std.proofs.lemmas.Int.{ints}
use Rattle.std.proofs.lemmas.Bool.{or_cases, or_left, or_right, and_from, cases_Bool, false≢true, false_from_ne_true}
use Rattle.std.proofs.lemmas.List.Sums.{sum_by-cons}
use Rattle.domain_store.specs.declared.interval.Interval.{Interval}
use Rattle.domain_store.specs.Intervals.{is_inside, is_in_one, is_apart, ascend_apart, are_intervals}
use Rattle.domain_store.specs.steps.Ends.{low_of, high_of}
use Rattle.domain_store.proofs.Intervals.{inside_parts, in_turn, past, least, greatest}
use Rattle.state_space.specs.Values.{width}

-- how many of n numbers from a on pass
abbrev passing : (ℤ → Bool) → ℤ → ℕ → ℕ
passing p a zero = 0
passing p a (suc n) = cond (p a) 1 0 + passing p (a +ℤ pos 1) n

passing_agree : (p q : ℤ → Bool) (a : ℤ) (n : ℕ) → ((v : ℤ) → a ≤ℤ v → v <ℤ (a +ℤ pos n) → p v ≡ q v) → passing p a n ≡ passing q a n
passing_agree p q a zero agree = refl
passing_agree p q a (suc n) agree =
    ap₂ (λ b m. cond b 1 0 + m) (agree a (omega (arith, ints)) (omega (arith, ints)))
    (passing_agree p q (a +ℤ pos 1) n (λ v from below. agree v (omega (arith, ints)) (omega (arith, ints))))

passing_all : (a : ℤ) (n : ℕ) → passing (λ v. true) a n ≡ n
passing_all a zero = refl
passing_all a (suc n) = omega (arith, passing_all (a +ℤ pos 1) n)

passing_none : (a : ℤ) (n : ℕ) → passing (λ v. false) a n ≡ 0
passing_none a zero = refl
passing_none a (suc n) = omega (arith, passing_none (a +ℤ pos 1) n)

passing_split : (p : ℤ → Bool) (a b : ℤ) (m n : ℕ) → b ≡ a +ℤ pos m → passing p a (m + n) ≡ passing p a m + passing p b n
passing_split p a b zero n e =
    let same : b ≡ a = omega (arith, ints) in
    let none : 0 + n ≡ n = omega arith in
    rw (same, none) (omega arith)
passing_split p a b (suc m) n e =
    let more : suc m + n ≡ suc (m + n) = omega arith in
    let next : b ≡ (a +ℤ pos 1) +ℤ pos m = omega (arith, ints) in
    rw more (omega (arith, passing_split p (a +ℤ pos 1) b m n next))

-- where what passes the second test passes the first, no more pass the second
passing_no_more : (p q : ℤ → Bool) → ((v : ℤ) → IsTrue (q v) → IsTrue (p v)) → (a : ℤ) (n : ℕ) → passing q a n ≤ passing p a n
passing_no_more p q within a zero = omega arith
passing_no_more p q within a (suc n) = by (q a) (p a) (within a) (passing_no_more p q within (a +ℤ pos 1) n)
  where
    by : (b c : Bool) → (IsTrue b → IsTrue c) → passing q (a +ℤ pos 1) n ≤ passing p (a +ℤ pos 1) n
        → cond b 1 0 + passing q (a +ℤ pos 1) n ≤ cond c 1 0 + passing p (a +ℤ pos 1) n
    by true true i h = omega arith
    by true false i h = absurd (false≢true (i refl))
    by false true i h = omega arith
    by false false i h = omega arith

-- and fewer do, unless the tests agree
passing_fewer : (p q : ℤ → Bool) → ((v : ℤ) → IsTrue (q v) → IsTrue (p v)) → (a : ℤ) (n : ℕ)
    → (passing q a n < passing p a n) ⊎ ((v : ℤ) → a ≤ℤ v → v <ℤ (a +ℤ pos n) → p v ≡ q v)
passing_fewer p q within a zero = inr (λ v from below. absurd (omega (arith, ints)))
passing_fewer p q within a (suc n) =
    by (q a) (p a) refl refl (within a) (passing_no_more p q within (a +ℤ pos 1) n) (passing_fewer p q within (a +ℤ pos 1) n)
  where
    Rest : Type 0
    Rest = (v : ℤ) → (a +ℤ pos 1) ≤ℤ v → v <ℤ ((a +ℤ pos 1) +ℤ pos n) → p v ≡ q v

    at_or_after : (a v : ℤ) → a ≤ℤ v → (a ≡ v) ⊎ ((a +ℤ pos 1) ≤ℤ v)
    at_or_after a v from = elim (cases_Bool (int_le v a)) [
      | inl here ↦ inl (grind (arith, ints))
      | inr later ↦ inr (grind (arith, ints))
    ]

    agree : p a ≡ q a → Rest → (v : ℤ) → a ≤ℤ v → v <ℤ (a +ℤ pos (suc n)) → p v ≡ q v
    agree e rest v from below = elim (at_or_after a v from) [
      | inl same ↦ ap p (sym same) ∙ e ∙ ap q same
      | inr later ↦ rest v later (omega (arith, ints))
    ]

    by : (b c : Bool) → q a ≡ b → p a ≡ c → (IsTrue b → IsTrue c) → passing q (a +ℤ pos 1) n ≤ passing p (a +ℤ pos 1) n
        → (passing q (a +ℤ pos 1) n < passing p (a +ℤ pos 1) n) ⊎ Rest
        → (cond b 1 0 + passing q (a +ℤ pos 1) n < cond c 1 0 + passing p (a +ℤ pos 1) n)
        ⊎ ((v : ℤ) → a ≤ℤ v → v <ℤ (a +ℤ pos (suc n)) → p v ≡ q v)
    by true true e f i h (inl less) = inl (omega arith)
    by true true e f i h (inr rest) = inr (agree (f ∙ sym e) rest)
    by true false e f i h r = absurd (false≢true (i refl))
    by false true e f i h r = inl (omega arith)
    by false false e f i h (inl less) = inl (omega arith)
    by false false e f i h (inr rest) = inr (agree (f ∙ sym e) rest)

-- ---- how far apart two numbers are

span_to : (a b : ℤ) → a ≤ℤ b → b ≡ a +ℤ pos (nat_abs (b -ℤ a))
span_to a b h = omega (arith, ints)

to_le : (a b : ℤ) → IsTrue (int_le a b) → a ≤ℤ b
to_le a b h = grind (arith, ints)

from_le : (a b : ℤ) → a ≤ℤ b → IsTrue (int_le a b)
from_le a b h = grind (arith, ints)

after_next : (a v : ℤ) → IsTrue (int_lt (a +ℤ pos 1) v) → (a +ℤ pos 1) ≤ℤ v
after_next a v h = grind (arith, ints)

-- the intervals lie among n numbers from a on
abbrev LieWithin : List Interval → ℤ → ℕ → Type 0
LieWithin rs a n = (v : ℤ) → IsTrue (is_in_one rs v) → (a ≤ℤ v) × (v <ℤ (a +ℤ pos n))

-- all that lies in the intervals is among the numbers, so their widths count it
counted : (rs : List Interval) (a : ℤ) (n : ℕ) → IsTrue (ascend_apart rs) → LieWithin rs a n → passing (is_in_one rs) a n ≡ sum_by width rs
counted [] a n apart within = passing_none a n
counted (r ∷ rs) a n apart within =
    let parts = in_turn r rs apart in
    let ends = to_le r.low r.high parts.0 in
    let low_in = within r.low (or_left (is_inside r r.low) (is_in_one rs r.low) (and_from (int_le r.low r.low) (int_le r.low r.high) (from_le r.low r.low (omega (arith, ints))) parts.0)) in
    let high_in = within r.high (or_left (is_inside r r.high) (is_in_one rs r.high) (and_from (int_le r.low r.high) (int_le r.high r.high) parts.0 (from_le r.high r.high (omega (arith, ints))))) in
    let m = nat_abs (r.low -ℤ a) in
    let w = nat_abs (r.high -ℤ r.low) in
    let k = nat_abs ((a +ℤ pos n) -ℤ (r.high +ℤ pos 1)) in
    let low_is : r.low ≡ a +ℤ pos m = span_to a r.low low_in.0 in
    let high_is : r.high ≡ r.low +ℤ pos w = span_to r.low r.high ends in
    let room : (r.high +ℤ pos 1) ≤ℤ (a +ℤ pos n) = let below = high_in.1 in omega (arith, ints) in
    let end_is : (a +ℤ pos n) ≡ (r.high +ℤ pos 1) +ℤ pos k = span_to (r.high +ℤ pos 1) (a +ℤ pos n) room in
    parted r rs a n m w k parts.1 low_is high_is end_is
    (counted rs (r.high +ℤ pos 1) k parts.2 (λ v there.
    let after = after_next r.high v (past r rs v parts.1 there) in
    let below = (within v (or_right (is_inside r v) (is_in_one rs v) there)).1 in
    (after, rw (← end_is) below)))
  where
    parted : (r : Interval) (rs : List Interval) (a : ℤ) (n m w k : ℕ) → IsTrue (list_all (is_apart r) rs)
        → r.low ≡ a +ℤ pos m → r.high ≡ r.low +ℤ pos w → (a +ℤ pos n) ≡ (r.high +ℤ pos 1) +ℤ pos k
        → passing (is_in_one rs) (r.high +ℤ pos 1) k ≡ sum_by width rs
        → passing (is_in_one (r ∷ rs)) a n ≡ sum_by width (r ∷ rs)
    parted r rs a n m w k behind low_is high_is end_is rest =
        let n_is : n ≡ m + (suc w + k) = omega (arith, ints) in
        let wide : width r ≡ suc w = omega (arith, ints) in
        let after_is : (r.high +ℤ pos 1) ≡ r.low +ℤ pos (suc w) = omega (arith, ints) in
        let first = passing_split (is_in_one (r ∷ rs)) a r.low m (suc w + k) low_is in
        let second = passing_split (is_in_one (r ∷ rs)) r.low (r.high +ℤ pos 1) (suc w) k after_is in
        let none = passing_agree (is_in_one (r ∷ rs)) (λ v. false) a m (λ v from below. before v (rw low_is below)) in
        let all = passing_agree (is_in_one (r ∷ rs)) (λ v. true) r.low (suc w) (λ v from below. inside v from (rw after_is below)) in
        let after = passing_agree (is_in_one (r ∷ rs)) (is_in_one rs) (r.high +ℤ pos 1) k (λ v from below. beyond v from) in
        rw n_is (omega (arith, first, second, none, all, after, rest, passing_none a m, passing_all r.low (suc w), sum_by-cons width r rs, wide))
      where
        low_end : (a b v : ℤ) → v <ℤ a → IsTrue (int_le a v) → ⊥
        low_end a b v below from = grind (arith, ints)

        far_end : (a b v : ℤ) → v <ℤ a → a ≤ℤ b → (b +ℤ pos 1) ≤ℤ v → ⊥
        far_end a b v below ends from = omega (arith, ints)

        high_end : (b v : ℤ) → (b +ℤ pos 1) ≤ℤ v → IsTrue (int_le v b) → ⊥
        high_end b v from to = grind (arith, ints)

        not_after : (b v : ℤ) → v <ℤ (b +ℤ pos 1) → v ≤ℤ b
        not_after b v h = omega (arith, ints)

        ends : r.low ≤ℤ r.high
        ends = omega (arith, ints)

        before : (v : ℤ) → v <ℤ r.low → is_in_one (r ∷ rs) v ≡ false
        before v below = false_from_ne_true (is_in_one (r ∷ rs) v) (λ there. elim (or_cases (is_inside r v) (is_in_one rs v) there) [
          | inl here ↦ low_end r.low r.high v below (inside_parts r v here).0
          | inr later ↦ far_end r.low r.high v below ends (after_next r.high v (past r rs v behind later))
        ])

        inside : (v : ℤ) → r.low ≤ℤ v → v <ℤ (r.high +ℤ pos 1) → is_in_one (r ∷ rs) v ≡ true
        inside v from below = or_left (is_inside r v) (is_in_one rs v)
            (and_from (int_le r.low v) (int_le v r.high) (from_le r.low v from) (from_le v r.high (not_after r.high v below)))

        dropped : (b c : Bool) → b ≡ false → (b || c) ≡ c
        dropped true c e = absurd (false≢true (sym e))
        dropped false c e = refl

        beyond : (v : ℤ) → (r.high +ℤ pos 1) ≤ℤ v → is_in_one (r ∷ rs) v ≡ is_in_one rs v
        beyond v from = dropped (is_inside r v) (is_in_one rs v)
            (false_from_ne_true (is_inside r v) (λ here. high_end r.high v from (inside_parts r v here).1))

ascending : (rs : List Interval) → IsTrue (are_intervals rs) → IsTrue (ascend_apart rs)
ascending [] h = refl
ascending (r ∷ rs) h = h

below_next : (v b : ℤ) → v ≤ℤ b → v <ℤ (b +ℤ pos 1)
below_next v b h = omega (arith, ints)

-- A set of numbers within another has fewer of them, unless it is the same set.
pub fewer_numbers : (old new : List Interval) → IsTrue (are_intervals old) → IsTrue (are_intervals new)
    → ((v : ℤ) → IsTrue (is_in_one new v) → IsTrue (is_in_one old v))
    → (sum_by width new < sum_by width old) ⊎ ((v : ℤ) → IsTrue (is_in_one old v) → is_in_one new v ≡ is_in_one old v)
fewer_numbers old new formed formed' within =
    let low = least old formed in
    let high = greatest old formed in
    let a = low_of old in
    let b = high_of old in
    let n = nat_abs ((b +ℤ pos 1) -ℤ a) in
    let order : a ≤ℤ (b +ℤ pos 1) = let most = low.1 b high.0 in omega (arith, ints) in
    let end_is : (b +ℤ pos 1) ≡ a +ℤ pos n = span_to a (b +ℤ pos 1) order in
    let lie : LieWithin old a n = λ v there. (low.1 v there, rw (← end_is) (below_next v b (high.1 v there))) in
    let lie' : LieWithin new a n = λ v there. lie v (within v there) in
    let count = counted old a n (ascending old formed) lie in
    let count' = counted new a n (ascending new formed') lie' in
    elim (passing_fewer (is_in_one old) (is_in_one new) within a n) [
      | inl less ↦ inl (omega (arith, less, count, count'))
      | inr same ↦ inr (λ v there. let at = lie v there in sym (same v at.0 at.1))
    ]
