-- The numbers of a range that pass a test.
use Rattle.std.proofs.Common.{◌≡◌, ℕ, zero, suc, ◌+◌, ◌<◌, ◌≤◌, ◌∙◌, ap, sym, ◌&&◌, ◌||◌, ◌==◌, nat_lt, Bool, true, false, cond, refl, inl, inr, List, [], ◌∷◌, length, arith, lt-ltb, le-ltb, eq-eqb, ne_eqb}
use Rattle.std.specs.Prelude.{◌⊎◌, IsTrue}
use Rattle.std.specs.List.{list_all, filter, range_with_len}
use Rattle.std.proofs.lemmas.Bool.{cases_eq, false≢true, and_from}
use Rattle.config_value.specs.Shaped.{ascends}
use Rattle.state_space.specs.Sets.{has_number, set_of, is_set_below}

picked : (b : Bool) (j k : ℕ) (xs : List ℕ) → has_number (cond b (j ∷ xs) xs) k ≡ ((b && (j == k)) || has_number xs k)
picked true j k xs = refl
picked false j k xs = refl

none_before : (p : ℕ → Bool) (a n k : ℕ) → k < a → has_number (filter p (range_with_len a n)) k ≡ false
none_before p a zero k h = refl
none_before p a (suc n) k h =
    picked (p a) a k (filter p (range_with_len (a + 1) n))
    ∙ by (p a) (a == k) (has_number (filter p (range_with_len (a + 1) n)) k) (ne_eqb a k (λ e. absurd (omega (arith, e)))) (none_before p (a + 1) n k (omega arith))
  where
    by : (b c d : Bool) → c ≡ false → d ≡ false → ((b && c) || d) ≡ false
    by true c d e f = grind (arith, e, f)
    by false c d e f = f

-- a number is among those that pass exactly where it lies in the range and passes
pub has_passing : (p : ℕ → Bool) (a n k : ℕ) → a ≤ k → has_number (filter p (range_with_len a n)) k ≡ (nat_lt k (a + n) && p k)
has_passing p a zero k h = ap (λ b. b && p k) (sym (le-ltb k (a + 0) (omega arith)))
has_passing p a (suc n) k h =
    picked (p a) a k (filter p (range_with_len (a + 1) n)) ∙ elim (cases_eq a k) [
      | inl same ↦ here same
      | inr other ↦ later other (has_passing p (a + 1) n k (omega (arith, other)))
    ]
  where
    rest : Bool
    rest = has_number (filter p (range_with_len (a + 1) n)) k

    first : (b c d : Bool) → c ≡ true → d ≡ false → ((b && c) || d) ≡ b
    first true c d e f = grind (arith, e, f)
    first false c d e f = f

    here : a ≡ k → ((p a && (a == k)) || rest) ≡ (nat_lt k (a + suc n) && p k)
    here same =
        first (p a) (a == k) rest (eq-eqb a k same) (none_before p (a + 1) n k (omega (arith, same)))
        ∙ ap p same ∙ sym (ap (λ b. b && p k) (lt-ltb k (a + suc n) (omega (arith, same))))

    next : (b c d e : Bool) → c ≡ false → d ≡ e → ((b && c) || d) ≡ e
    next true c d e f g = grind (arith, f, g)
    next false c d e f g = g

    later : (a ≡ k → ⊥) → rest ≡ (nat_lt k (a + 1 + n) && p k) → ((p a && (a == k)) || rest) ≡ (nat_lt k (a + suc n) && p k)
    later other found =
        let more : a + 1 + n ≡ a + suc n = omega arith in
        next (p a) (a == k) rest (nat_lt k (a + suc n) && p k) (ne_eqb a k other)
        (found ∙ ap (λ m. nat_lt k m && p k) more)

-- where what passes the second test passes the first, no more pass the second
pub no_more : (p q : ℕ → Bool) → ((k : ℕ) → IsTrue (q k) → IsTrue (p k)) → (xs : List ℕ)
    → length (filter q xs) ≤ length (filter p xs)
no_more p q within [] = omega arith
no_more p q within (x ∷ xs) = by (q x) (p x) (within x) (no_more p q within xs)
  where
    by : (b c : Bool) → (IsTrue b → IsTrue c) → length (filter q xs) ≤ length (filter p xs)
        → length (cond b (x ∷ filter q xs) (filter q xs)) ≤ length (cond c (x ∷ filter p xs) (filter p xs))
    by true true i h = omega arith
    by true false i h = absurd (false≢true (i refl))
    by false true i h = omega arith
    by false false i h = h

-- and fewer do, unless the tests agree on the range
pub fewer_or_same : (p q : ℕ → Bool) → ((k : ℕ) → IsTrue (q k) → IsTrue (p k)) → (a n : ℕ)
    → (length (filter q (range_with_len a n)) < length (filter p (range_with_len a n))) ⊎ ((k : ℕ) → a ≤ k → k < a + n → p k ≡ q k)
fewer_or_same p q within a zero = inr (λ k from below. absurd (omega arith))
fewer_or_same p q within a (suc n) =
    by (q a) (p a) refl refl (within a) (no_more p q within (range_with_len (a + 1) n)) (fewer_or_same p q within (a + 1) n)
  where
    xs : List ℕ
    xs = range_with_len (a + 1) n

    Rest : Type 0
    Rest = (k : ℕ) → a + 1 ≤ k → k < a + 1 + n → p k ≡ q k

    agree : p a ≡ q a → Rest → (k : ℕ) → a ≤ k → k < a + suc n → p k ≡ q k
    agree e rest k from below = elim (cases_eq a k) [
      | inl same ↦ ap p (sym same) ∙ e ∙ ap q same
      | inr other ↦ rest k (omega (arith, other)) (omega arith)
    ]

    by : (b c : Bool) → q a ≡ b → p a ≡ c → (IsTrue b → IsTrue c) → length (filter q xs) ≤ length (filter p xs)
        → (length (filter q xs) < length (filter p xs)) ⊎ Rest
        → (length (cond b (a ∷ filter q xs) (filter q xs)) < length (cond c (a ∷ filter p xs) (filter p xs))) ⊎ ((k : ℕ) → a ≤ k → k < a + suc n → p k ≡ q k)
    by true true e f i h (inl less) = inl (omega arith)
    by true true e f i h (inr rest) = inr (agree (f ∙ sym e) rest)
    by true false e f i h r = absurd (false≢true (i refl))
    by false true e f i h r = inl (omega arith)
    by false false e f i h (inl less) = inl less
    by false false e f i h (inr rest) = inr (agree (f ∙ sym e) rest)

-- the numbers of a range ascend, and so do those that pass
ascend_after : (p : ℕ → Bool) (j a n : ℕ) → j < a → IsTrue (ascends (j ∷ filter p (range_with_len a n)))
ascend_after p j a zero h = refl
ascend_after p j a (suc n) h = by (p a) (ascend_after p a (a + 1) n (omega arith)) (ascend_after p j (a + 1) n (omega arith))
  where
    rest : List ℕ
    rest = filter p (range_with_len (a + 1) n)

    by : (b : Bool) → IsTrue (ascends (a ∷ rest)) → IsTrue (ascends (j ∷ rest)) → IsTrue (ascends (j ∷ cond b (a ∷ rest) rest))
    by true first other = and_from (nat_lt j a) (ascends (a ∷ rest)) (lt-ltb j a h) first
    by false first other = other

pub passing_ascend : (p : ℕ → Bool) (a n : ℕ) → IsTrue (ascends (filter p (range_with_len a n)))
passing_ascend p a zero = refl
passing_ascend p a (suc n) = by (p a) (ascend_after p a (a + 1) n (omega arith)) (passing_ascend p (a + 1) n)
  where
    rest : List ℕ
    rest = filter p (range_with_len (a + 1) n)

    by : (b : Bool) → IsTrue (ascends (a ∷ rest)) → IsTrue (ascends rest) → IsTrue (ascends (cond b (a ∷ rest) rest))
    by true first other = first
    by false first other = other

pub passing_below : (p : ℕ → Bool) (bound a n : ℕ) → a + n ≤ bound → IsTrue (list_all (λ k. nat_lt k bound) (filter p (range_with_len a n)))
passing_below p bound a zero h = refl
passing_below p bound a (suc n) h = by (p a) (passing_below p bound (a + 1) n (omega arith))
  where
    rest : List ℕ
    rest = filter p (range_with_len (a + 1) n)

    by : (b : Bool) → IsTrue (list_all (λ k. nat_lt k bound) rest) → IsTrue (list_all (λ k. nat_lt k bound) (cond b (a ∷ rest) rest))
    by true all = and_from (nat_lt a bound) (list_all (λ k. nat_lt k bound) rest) (lt-ltb a bound (omega arith)) all
    by false all = all

-- the set of the numbers below a bound that pass is in order
pub set_formed : (bound : ℕ) (p : ℕ → Bool) → IsTrue (is_set_below bound (set_of bound p))
set_formed bound p = and_from (ascends (set_of bound p)) (list_all (λ k. nat_lt k bound) (set_of bound p)) (passing_ascend p 0 bound) (passing_below p bound 0 bound (omega arith))
