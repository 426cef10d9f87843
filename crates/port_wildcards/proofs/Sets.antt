-- Members of sets and of lists.
use Rattle.std.proofs.Common.{◌≡◌, ℕ, zero, suc, ◌+◌, ◌<◌, Bool, true, false, ◌&&◌, ◌==◌, List, [], ◌∷◌, refl, ap, sym, ◌∙◌, subst, inl, inr, arith, eqb-true, eq-eqb, ltb-true}
use Rattle.std.specs.Prelude.{IsTrue}
use Rattle.std.specs.List.{list_all, list_any, filter, range_with_len}
use Rattle.std.proofs.lemmas.Bool.{and_parts, and_from, or_cases, or_left, or_right, false≢true}
use Rattle.std.proofs.lemmas.Bool.Decides.{eqb_tells}
use Rattle.instance_set.specs.declared.set.InstanceSet.{InstanceSet}
use Rattle.instance_set.specs.InstanceSets.{is_member, members}

-- the number is in the list
abbrev pub has : List ℕ → ℕ → Bool
has xs k = list_any (λ j. j == k) xs

-- a test that passes for the whole list passes for each number in it
pub all_has : (test : ℕ → Bool) (xs : List ℕ) (k : ℕ) → IsTrue (list_all test xs) → IsTrue (has xs k) → IsTrue (test k)
all_has test [] k all there = absurd (false≢true there)
all_has test (x ∷ xs) k all there =
    let both = and_parts _ _ all in
    elim (or_cases (x == k) (has xs k) there) [
      | inl here ↦ subst (λ j. IsTrue (test j)) (eqb-true x k here) both.0
      | inr later ↦ all_has test xs k both.1 later
    ]

-- and the other way round
pub all_from_has : (test : ℕ → Bool) (xs : List ℕ) → ((k : ℕ) → IsTrue (has xs k) → IsTrue (test k)) → IsTrue (list_all test xs)
all_from_has test [] each = refl
all_from_has test (x ∷ xs) each =
    and_from _ _ (each x (or_left _ _ (eq-eqb x x refl))) (all_from_has test xs (λ k there. each k (or_right _ _ there)))

-- what a test leaves of a list
has-filter : (test : ℕ → Bool) (xs : List ℕ) (k : ℕ) → has (filter test xs) k ≡ (has xs k && test k)
has-filter test [] k = refl
has-filter test (x ∷ xs) k = grind (arith, eqb_tells x k, has-filter test xs k)

in_range : (a n i : ℕ) → i < n → IsTrue (has (range_with_len a n) (a + i))
in_range a zero i low = absurd (omega arith)
in_range a (suc n) zero low = or_left _ _ (eq-eqb a (a + 0) (omega arith))
in_range a (suc n) (suc i) low =
    let e : a + 1 + i ≡ a + suc i = omega arith in
    or_right _ _ (subst (λ k. IsTrue (has (range_with_len (a + 1) n) k)) e (in_range (a + 1) n i (omega arith)))

pub member_low : (s : InstanceSet) (j : ℕ) → IsTrue (is_member s j) → j < 256
member_low s j there = ltb-true j 256 (and_parts _ _ there).0

-- the members are what the set has
pub has-members : (s : InstanceSet) (j : ℕ) → has (members s) j ≡ is_member s j
has-members s j = has-filter (is_member s) (range_with_len 0 256) j ∙ by (is_member s j) refl
  where
    by : (b : Bool) → is_member s j ≡ b → (has (range_with_len 0 256) j && is_member s j) ≡ is_member s j
    by true there = let e : 0 + j ≡ j = omega arith in
        ap (λ b. b && is_member s j) (subst (λ k. IsTrue (has (range_with_len 0 256) k)) e (in_range 0 256 j (member_low s j there)))
    by false out = ap (λ b. has (range_with_len 0 256) j && b) out ∙ none (has (range_with_len 0 256) j) ∙ sym out
      where
        none : (b : Bool) → (b && false) ≡ false
        none true = refl
        none false = refl
