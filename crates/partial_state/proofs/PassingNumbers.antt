-- The numbers of a range that pass a test, where the test is that of another or of one number less.
use Rattle.std.proofs.Common.{◌≡◌, ℕ, zero, suc, ◌+◌, ◌<◌, ◌≤◌, ◌∙◌, ap, ap₂, sym, ◌&&◌, ◌==◌, not, nat_lt, Bool, true, false, cond, refl, inl, inr, List, [], ◌∷◌, Option, None, arith, lt-ltb, le-ltb, eq-eqb, ne_eqb}
use Rattle.std.specs.Prelude.{◌⊎◌}
use Rattle.std.specs.List.{filter, filter_map, cons_option, range_with_len}
use Rattle.std.proofs.lemmas.Bool.{cases_eq, false≢true}

-- where none passes there is none
pub filter_none : (p : ℕ → Bool) (a n : ℕ) → ((k : ℕ) → a ≤ k → k < a + n → p k ≡ false) → filter p (range_with_len a n) ≡ []
filter_none p a zero none = refl
filter_none p a (suc n) none =
    ap₂ (λ b xs. cond b (a ∷ xs) xs) (none a (omega arith) (omega arith))
    (filter_none p (a + 1) n (λ k from below. none k (omega (arith, from)) (omega (arith, below))))

-- numbers from a place on don't matter where none of them passes
pub filter_cut : (p q : ℕ → Bool) (a n s : ℕ) → n ≤ s → ((k : ℕ) → a ≤ k → k < a + n → p k ≡ q k) → ((k : ℕ) → a + n ≤ k → k < a + s → p k ≡ false)
    → filter p (range_with_len a s) ≡ filter q (range_with_len a n)
filter_cut p q a zero s few agree none = filter_none p a s (λ k from below. none k (omega (arith, from)) below)
filter_cut p q a (suc n) zero few agree none = absurd (omega (arith, few))
filter_cut p q a (suc n) (suc s) few agree none =
    ap₂ (λ b xs. cond b (a ∷ xs) xs) (agree a (omega arith) (omega arith))
    (filter_cut p q (a + 1) n s (omega (arith, few)) (λ k from below. agree k (omega (arith, from)) (omega (arith, below)))
    (λ k from below. none k (omega (arith, from)) (omega (arith, below))))

-- all pass a test that is passed
filter_all : (xs : List ℕ) → filter (λ k. true) xs ≡ xs
filter_all [] = refl
filter_all (x ∷ xs) = ap (λ ys. x ∷ ys) (filter_all xs)

-- where the first numbers pass alone, they are what passes
pub first_numbers : (p : ℕ → Bool) (n s : ℕ) → n ≤ s → ((k : ℕ) → k < s → p k ≡ nat_lt k n) → filter p (range_with_len 0 s) ≡ range_with_len 0 n
first_numbers p n s few test =
    filter_cut p (λ k. true) 0 n s few (λ k from below. test k (omega (arith, few, below)) ∙ lt-ltb k n (omega (arith, below)))
    (λ k from below. test k (omega (arith, below)) ∙ le-ltb k n (omega (arith, from)))
    ∙ filter_all (range_with_len 0 n)

-- what passes one test and then another
pub filter_filter : (p q : ℕ → Bool) (xs : List ℕ) → filter q (filter p xs) ≡ filter (λ k. p k && q k) xs
filter_filter p q [] = refl
filter_filter p q (x ∷ xs) = by (p x) (filter_filter p q xs)
  where
    by : (b : Bool) → filter q (filter p xs) ≡ filter (λ k. p k && q k) xs
        → filter q (cond b (x ∷ filter p xs) (filter p xs)) ≡ cond (b && q x) (x ∷ filter (λ k. p k && q k) xs) (filter (λ k. p k && q k) xs)
    by true rest = ap (λ ys. cond (q x) (x ∷ ys) ys) rest
    by false rest = rest

-- The least number that passes comes first, and then those that pass beside it.
pub least_first : (p q : ℕ → Bool) (a n t : ℕ) → a ≤ t → t < a + n → p t ≡ true → ((k : ℕ) → k < t → p k ≡ false)
    → ((k : ℕ) → q k ≡ (p k && not (k == t))) → filter p (range_with_len a n) ≡ t ∷ filter q (range_with_len a n)
least_first p q a zero t from below passes before others = absurd (omega (arith, from, below))
least_first p q a (suc n) t from below passes before others = elim (cases_eq a t) [
  | inl same ↦ here (p a) (q a) same (ap p same ∙ passes) (others a ∙ left_out (p a) (a == t) (eq-eqb a t same))
      (filter_cut p q (a + 1) n n (omega arith) (λ k from' below'. sym (others k ∙ stays (p k) (k == t) (ne_eqb k t (λ e. absurd (omega (arith, from', e, same))))))
      (λ k from' below'. absurd (omega (arith, from', below'))))
  | inr other ↦
      let first : p a ≡ false = before a (omega (arith, from, other)) in
      later (p a) (q a) first (others a ∙ ap (λ b. b && not (a == t)) first)
      (least_first p q (a + 1) n t (omega (arith, from, other)) (omega (arith, below)) passes before others)
]
  where
    left_out : (b c : Bool) → c ≡ true → (b && not c) ≡ false
    left_out true c is = ap not is
    left_out false c is = refl

    stays : (b c : Bool) → c ≡ false → (b && not c) ≡ b
    stays true c is = ap not is
    stays false c is = refl

    here : (b c : Bool) → a ≡ t → b ≡ true → c ≡ false → filter p (range_with_len (a + 1) n) ≡ filter q (range_with_len (a + 1) n)
        → cond b (a ∷ filter p (range_with_len (a + 1) n)) (filter p (range_with_len (a + 1) n)) ≡ t ∷ cond c (a ∷ filter q (range_with_len (a + 1) n)) (filter q (range_with_len (a + 1) n))
    here true false same is out rest = ap₂ (λ x xs. x ∷ xs) same rest
    here true true same is out rest = absurd (false≢true (sym out))
    here false c same is out rest = absurd (false≢true is)

    later : (b c : Bool) → b ≡ false → c ≡ false → filter p (range_with_len (a + 1) n) ≡ t ∷ filter q (range_with_len (a + 1) n)
        → cond b (a ∷ filter p (range_with_len (a + 1) n)) (filter p (range_with_len (a + 1) n)) ≡ t ∷ cond c (a ∷ filter q (range_with_len (a + 1) n)) (filter q (range_with_len (a + 1) n))
    later false false out out' rest = rest
    later false true out out' rest = absurd (false≢true (sym out'))
    later true c out out' rest = absurd (false≢true (sym out))

-- What a function gives of the numbers that pass is the same of those that pass another test, where the tests agree on what it gives something of.
pub filter_map_filter : {Y : Type 0} (f : ℕ → Option Y) (p q : ℕ → Bool) → ((k : ℕ) → (f k ≡ None) ⊎ (p k ≡ q k)) → (xs : List ℕ)
    → filter_map f (filter p xs) ≡ filter_map f (filter q xs)
filter_map_filter f p q agree [] = refl
filter_map_filter {Y} f p q agree (x ∷ xs) = by (p x) (q x) (agree x) (filter_map_filter f p q agree xs)
  where
    by : (b c : Bool) → (f x ≡ None) ⊎ (b ≡ c) → filter_map f (filter p xs) ≡ filter_map f (filter q xs)
        → filter_map f (cond b (x ∷ filter p xs) (filter p xs)) ≡ filter_map f (cond c (x ∷ filter q xs) (filter q xs))
    by true true e rest = ap (cons_option (f x)) rest
    by false false e rest = rest
    by true false (inl none) rest = ap (λ o. cons_option o (filter_map f (filter p xs))) none ∙ rest
    by true false (inr same) rest = absurd (false≢true (sym same))
    by false true (inl none) rest = rest ∙ sym (ap (λ o. cons_option o (filter_map f (filter q xs))) none)
    by false true (inr same) rest = absurd (false≢true same)
