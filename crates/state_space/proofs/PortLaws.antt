-- How many links a port has, by what it requires and what is possible.
use Rattle.std.proofs.Common.{◌≡◌, ◌≢◌, ℕ, suc, ◌+◌, ◌<◌, ◌≤◌, Bool, true, false, not, cond, ◌&&◌, List, [], ◌∷◌, length, refl, ap, ap₂, sym, ◌∙◌, subst, inl, inr, arith, ltb-true, eqb-true, eq-eqb, lt-ltb, le_refl, zero-le}
use Rattle.std.specs.Prelude.{IsTrue, ◌==◌}
use Rattle.std.specs.List.{list_all, filter, count_by}
use Rattle.std.proofs.lemmas.List.Sums.{sum_by-cons}
use Rattle.std.proofs.lemmas.Bool.{and_parts, and_from, or_cases, or_left, or_right, false≢true}
use Rattle.std.proofs.lemmas.Bool.Decides.{eqb_tells}
use Rattle.config_value.specs.Shaped.{ascends}
use Rattle.state_space.specs.Sets.{has_number}

-- a test that passes for the whole list passes for a member
pub all_has : (test : ℕ → Bool) (xs : List ℕ) (k : ℕ) → IsTrue (list_all test xs) → IsTrue (has_number xs k) → IsTrue (test k)
all_has test [] k all there = absurd (false≢true there)
all_has test (x ∷ xs) k all there = let both = and_parts _ _ all in elim (or_cases (x == k) (has_number xs k) there) [
  | inl here ↦ subst (λ j. IsTrue (test j)) (eqb-true x k here) both.0
  | inr later ↦ all_has test xs k both.1 later
]

-- and the other way round
pub all_from_has : (test : ℕ → Bool) (xs : List ℕ) → ((k : ℕ) → IsTrue (has_number xs k) → IsTrue (test k)) → IsTrue (list_all test xs)
all_from_has test [] each = refl
all_from_has test (x ∷ xs) each = and_from _ _ (each x (or_left _ _ (eq-eqb x x refl))) (all_from_has test xs (λ k there. each k (or_right _ _ there)))

-- the members of what a test leaves
pub has_number-filter : (test : ℕ → Bool) (xs : List ℕ) (k : ℕ) → has_number (filter test xs) k ≡ (has_number xs k && test k)
has_number-filter test [] k = refl
has_number-filter test (x ∷ xs) k = grind (arith, eqb_tells x k, has_number-filter test xs k)

-- the first of ascending numbers is below all others
pub below_rest : (x : ℕ) (xs : List ℕ) → IsTrue (ascends (x ∷ xs)) → (k : ℕ) → IsTrue (has_number xs k) → x < k
below_rest x [] h k there = absurd (false≢true there)
below_rest x (y ∷ xs) h k there = let both = and_parts _ _ h in let less : x < y = ltb-true x y both.0 in elim (or_cases (y == k) (has_number xs k) there) [
  | inl here ↦ omega (arith, less, eqb-true y k here)
  | inr later ↦ omega (arith, less, below_rest y xs both.1 k later)
]

pub ascends_rest : (x : ℕ) (xs : List ℕ) → IsTrue (ascends (x ∷ xs)) → IsTrue (ascends xs)
ascends_rest x [] h = refl
ascends_rest x (y ∷ xs) h = (and_parts _ _ h).1

-- where ascending numbers are among others whose first is another, they are among the rest
among_rest : (x : ℕ) (xs : List ℕ) (y : ℕ) (ys : List ℕ) → IsTrue (ascends (x ∷ xs)) → IsTrue (ascends (y ∷ ys)) → IsTrue (list_all (has_number (y ∷ ys)) (x ∷ xs))
    → y ≢ x → IsTrue (list_all (has_number ys) (x ∷ xs))
among_rest x xs y ys up up' among other = all_from_has (has_number ys) (x ∷ xs) (λ k there.
    elim (or_cases (y == k) (has_number ys k) (all_has (has_number (y ∷ ys)) (x ∷ xs) k among there)) [
      | inl here ↦ absurd (not_below k there (eqb-true y k here))
      | inr later ↦ later
    ])
  where
    here : IsTrue (has_number ys x)
    here = elim (or_cases (y == x) (has_number ys x) (all_has (has_number (y ∷ ys)) (x ∷ xs) x among (or_left _ _ (eq-eqb x x refl)))) [
      | inl same ↦ absurd (other (eqb-true y x same))
      | inr later ↦ later
    ]

    not_below : (k : ℕ) → IsTrue (has_number (x ∷ xs) k) → y ≡ k → ⊥
    not_below k there is = let above = below_rest y ys up' x here in elim (or_cases (x == k) (has_number xs k) there) [
      | inl same ↦ other (is ∙ sym (eqb-true x k same))
      | inr later ↦ let less = below_rest x xs up k later in absurd (omega (arith, less, above, is))
    ]

-- and where it is the same, the rest are among the rest
rest_among_rest : (x : ℕ) (xs : List ℕ) (y : ℕ) (ys : List ℕ) → IsTrue (ascends (x ∷ xs)) → IsTrue (list_all (has_number (y ∷ ys)) (x ∷ xs))
    → y ≡ x → IsTrue (list_all (has_number ys) xs)
rest_among_rest x xs y ys up among same = all_from_has (has_number ys) xs (λ k there.
    elim (or_cases (y == k) (has_number ys k) (all_has (has_number (y ∷ ys)) (x ∷ xs) k among (or_right _ _ there))) [
      | inl here ↦ let less = below_rest x xs up k there in absurd (omega (arith, less, same, eqb-true y k here))
      | inr later ↦ later
    ])

-- what one element adds to a count
abbrev pub one : Bool → ℕ
one b = cond b 1 0

pub counted : {X : Type 0} (test : X → Bool) (x : X) (xs : List X) → count_by test (x ∷ xs) ≡ one (test x) + count_by test xs
counted test x xs = sum_by-cons (λ k. one (test k)) x xs

-- Of ascending numbers that are among others no more pass a test than of the others.
pub count_by-within : (test : ℕ → Bool) (xs ys : List ℕ) → IsTrue (ascends xs) → IsTrue (ascends ys) → IsTrue (list_all (has_number ys) xs)
    → count_by test xs ≤ count_by test ys
count_by-within test [] ys up up' among = zero-le
count_by-within test (x ∷ xs) [] up up' among = absurd (false≢true among)
count_by-within test (x ∷ xs) (y ∷ ys) up up' among = elim (eqb_tells y x) [
  | inl same ↦
      let tail : count_by test xs ≤ count_by test ys =
      count_by-within test xs ys (ascends_rest x xs up) (ascends_rest y ys up') (rest_among_rest x xs y ys up among same.1) in
      let head : one (test x) ≡ one (test y) = ap (λ k. one (test k)) (sym same.1) in
      omega (arith, tail, head, counted test x xs, counted test y ys)
  | inr other ↦
      let tail : count_by test (x ∷ xs) ≤ count_by test ys =
      count_by-within test (x ∷ xs) ys up (ascends_rest y ys up') (among_rest x xs y ys up up' among other.1) in
      omega (arith, tail, counted test y ys)
]

-- numbers are parted by a test
pub count_by-parted : (test part : ℕ → Bool) (xs : List ℕ) → count_by test xs ≡ count_by test (filter part xs) + count_by (λ k. test k && not (part k)) xs
count_by-parted test part [] = refl
count_by-parted test part (x ∷ xs) = by (part x) (test x) refl refl (count_by-parted test part xs)
  where
    out : ℕ → Bool
    out k = test k && not (part k)

    step : (p t : Bool) → part x ≡ p → test x ≡ t → count_by out (x ∷ xs) ≡ one (t && not p) + count_by out xs
    step p t parts tests = let same : one (out x) ≡ one (t && not p) = ap₂ (λ a b. one (a && not b)) tests parts in counted out x xs ∙ ap (λ n. n + count_by out xs) same

    by : (p t : Bool) → part x ≡ p → test x ≡ t → count_by test xs ≡ count_by test (filter part xs) + count_by out xs
        → count_by test (x ∷ xs) ≡ count_by test (cond p (x ∷ filter part xs) (filter part xs)) + count_by out (x ∷ xs)
    by true true parts tests h = let last = step true true parts tests in omega (arith, h, last, counted test x xs, counted test x (filter part xs))
    by true false parts tests h = let last = step true false parts tests in omega (arith, h, last, counted test x xs, counted test x (filter part xs))
    by false true parts tests h = let last = step false true parts tests in let head : one (test x) ≡ 1 = ap one tests in omega (arith, h, last, head, counted test x xs)
    by false false parts tests h = let last = step false false parts tests in let head : one (test x) ≡ 0 = ap one tests in omega (arith, h, last, head, counted test x xs)

-- where one test passes only what another does, no more pass it
pub count_by-le : (test other : ℕ → Bool) → ((k : ℕ) → IsTrue (test k) → IsTrue (other k)) → (xs : List ℕ) → count_by test xs ≤ count_by other xs
count_by-le test other within [] = le_refl 0
count_by-le test other within (x ∷ xs) = by (test x) (other x) refl refl (count_by-le test other within xs)
  where
    by : (t o : Bool) → test x ≡ t → other x ≡ o → count_by test xs ≤ count_by other xs → count_by test (x ∷ xs) ≤ count_by other (x ∷ xs)
    by true true tests others h = let a : one (test x) ≡ 1 = ap one tests in let b : one (other x) ≡ 1 = ap one others in omega (arith, h, a, b, counted test x xs, counted other x xs)
    by true false tests others h = absurd (false≢true (sym others ∙ within x tests))
    by false o tests others h = let a : one (test x) ≡ 0 = ap one tests in omega (arith, h, a, counted test x xs, counted other x xs)

-- tests that answer alike count alike
pub count_by-same : (test other : ℕ → Bool) → ((k : ℕ) → test k ≡ other k) → (xs : List ℕ) → count_by test xs ≡ count_by other xs
count_by-same test other same [] = refl
count_by-same test other same (x ∷ xs) =
    let head : one (test x) ≡ one (other x) = ap one (same x) in
    let tail : count_by test xs ≡ count_by other xs = count_by-same test other same xs in
    omega (arith, head, tail, counted test x xs, counted other x xs)

pub count_by-all : (xs : List ℕ) → count_by (λ k. true) xs ≡ length xs
count_by-all [] = refl
count_by-all (x ∷ xs) =
    let tail : count_by (λ k. true) xs ≡ length xs = count_by-all xs in
    let e : 1 + count_by (λ k. true) xs ≡ suc (length xs) = omega (arith, tail) in counted (λ k. true) x xs ∙ e

-- one more in front, below all others
ascends_joined : (x : ℕ) (ys : List ℕ) → IsTrue (ascends ys) → ((k : ℕ) → IsTrue (has_number ys k) → x < k) → IsTrue (ascends (x ∷ ys))
ascends_joined x [] up above = refl
ascends_joined x (y ∷ ys) up above = and_from _ _ (lt-ltb x y (above y (or_left _ _ (eq-eqb y y refl)))) up

-- what is left of ascending numbers ascends
pub ascends-filter : (test : ℕ → Bool) (xs : List ℕ) → IsTrue (ascends xs) → IsTrue (ascends (filter test xs))
ascends-filter test [] h = refl
ascends-filter test (x ∷ xs) h = by (test x) (ascends-filter test xs (ascends_rest x xs h))
  where
    above : (k : ℕ) → IsTrue (has_number (filter test xs) k) → x < k
    above k there = below_rest x xs h k (and_parts _ _ (sym (has_number-filter test xs k) ∙ there)).0

    by : (b : Bool) → IsTrue (ascends (filter test xs)) → IsTrue (ascends (cond b (x ∷ filter test xs) (filter test xs)))
    by true rest = ascends_joined x (filter test xs) rest above
    by false rest = rest

-- a member that passes counts
pub count_by-member : (test : ℕ → Bool) (xs : List ℕ) (k : ℕ) → IsTrue (has_number xs k) → IsTrue (test k) → 1 ≤ count_by test xs
count_by-member test [] k there passes = absurd (false≢true there)
count_by-member test (x ∷ xs) k there passes = elim (or_cases (x == k) (has_number xs k) there) [
  | inl here ↦
      let head : one (test x) ≡ 1 = ap (λ j. one (test j)) (eqb-true x k here) ∙ ap one passes in
      omega (arith, head, counted test x xs)
  | inr later ↦
      let tail : 1 ≤ count_by test xs = count_by-member test xs k later passes in
      omega (arith, tail, counted test x xs)
]

-- where no member passes none counts
pub count_by-none : (test : ℕ → Bool) (xs : List ℕ) → ((k : ℕ) → IsTrue (has_number xs k) → test k ≡ false) → count_by test xs ≡ 0
count_by-none test [] none = refl
count_by-none test (x ∷ xs) none =
    let head : one (test x) ≡ 0 = ap one (none x (or_left _ _ (eq-eqb x x refl))) in
    let tail : count_by test xs ≡ 0 = count_by-none test xs (λ k there. none k (or_right _ _ there)) in
    omega (arith, head, tail, counted test x xs)
