-- Narrowings of sets of words.
use Rattle.std.proofs.Common.{◌≡◌, ◌≢◌, ℕ, ◌<◌, ◌≤◌, ◌^◌, ◌+◌, ◌*◌, ◌/◌, ◌%◌, ◌∙◌, ap, sym, bit_and, ◌&&◌, ◌==◌, Bool, true, false, inl, inr, arith}
use Rattle.std.proofs.Math.Nat.{div-eq_of_lt-le}
use Rattle.std.specs.Prelude.{IsTrue, nat_lt}
use Rattle.std.proofs.lemmas.Nat.{pow-add}
use Rattle.std.specs.Int.{trailing_zeros, w64}
use Rattle.std.proofs.lemmas.Bool.{and_from, cases_lt, false≢true}
use Rattle.std.proofs.lemmas.Bool.Decides.{nat_tests}
use Rattle.std.proofs.lemmas.Nat.Bits.{bit_at_above, bit_at-trailing_zeros}
use Rattle.domain_store.specs.declared.change.Change.{Change}
use Rattle.domain_store.specs.declared.change.Change.TheVariants.{Same, Smaller, Empty}
use Rattle.domain_store.specs.Words.{has_word, IsLeastWord, IsGreatestWord, NarrowsWords}
use Rattle.domain_store.proofs.Narrowing.{both_kept, none_kept, AllPass, NonePass, empty_narrows, same_narrows, smaller_narrows, alike}
use Rattle.domain_store.proofs.Bits.{has_both, has_none, same_mask}

module _ (old wanted : ℕ) where
  abbrev Wanted : Type 0
  Wanted = AllPass has_word (has_word wanted) old old

  abbrev Unwanted : Type 0
  Unwanted = NonePass has_word (has_word wanted) old old

  -- where all words are wanted all bits stay, and the other way round
  all_stay : Wanted → bit_and old wanted ≡ old
  all_stay all = same_mask _ old (λ k. has_both old wanted k ∙ both_kept (has_word old k) (has_word wanted k) (all k))

  none_stay : Unwanted → bit_and old wanted ≡ 0
  none_stay none = same_mask _ 0 (λ k. has_both old wanted k ∙ none_kept (has_word old k) (has_word wanted k) (none k) ∙ sym (has_none k))

  stay_all : bit_and old wanted ≡ old → Wanted
  stay_all stay k is = passes (has_word old k) (has_word wanted k) is (sym (has_both old wanted k) ∙ ap (λ n. has_word n k) stay)
    where
      passes : (a b : Bool) → IsTrue a → (a && b) ≡ a → IsTrue b
      passes true b is same = same
      passes false b is same = absurd (false≢true is)

  stay_none : bit_and old wanted ≡ 0 → Unwanted
  stay_none stay k is is_wanted =
      false≢true (sym (has_none k) ∙ sym (ap (λ n. has_word n k) stay) ∙ has_both old wanted k ∙ and_from (has_word old k) (has_word wanted k) is is_wanted)

  pub words_emptied : old ≢ 0 → bit_and old wanted ≡ 0 → NarrowsWords (has_word wanted) Empty old old
  words_emptied some none = empty_narrows has_word (has_word wanted) old old (stay_none none) (λ all. some (sym (all_stay all) ∙ none))

  pub words_same : old ≢ 0 → bit_and old wanted ≡ old → NarrowsWords (has_word wanted) Same old old
  words_same some all = same_narrows has_word (has_word wanted) old old (stay_all all) (λ none. some (sym all ∙ none_stay none))

  pub words_fewer : bit_and old wanted ≢ 0 → bit_and old wanted ≢ old → NarrowsWords (has_word wanted) Smaller old (bit_and old wanted)
  words_fewer some fewer =
      smaller_narrows has_word (has_word wanted) old (bit_and old wanted) (λ all. fewer (all_stay all)) (λ none. some (none_stay none)) (has_both old wanted)

-- a set has no words from 64 on
pub word_below : (mask k : ℕ) → mask < 2 ^ 64 → IsTrue (has_word mask k) → k < 64
word_below mask k fits is = elim (cases_lt k 64) [
  | inl below ↦ below
  | inr past ↦ absurd (false≢true (sym (ap (λ b. b == 1) (bit_at_above mask 64 k fits past)) ∙ is))
]

pub word_absent : (mask k : ℕ) → mask < 2 ^ 64 → 64 ≤ k → nat_lt k 64 ≡ has_word mask k
word_absent mask k fits past = rw (bit_at_above mask 64 k fits past) (grind (arith, nat_tests))

-- a test that agrees with a mask below 64 narrows as the mask does
pub by_mask : (wanted old new : ℕ) (test : ℕ → Bool) (result : Change) → old < 2 ^ 64 → ((k : ℕ) → k < 64 → has_word wanted k ≡ test k)
    → NarrowsWords (has_word wanted) result old new → NarrowsWords test result old new
by_mask wanted old new test result fits agree = alike has_word (has_word wanted) old new test result (λ k is. agree k (word_below old k fits is))

-- ---- the ends

pub lowest_word : (mask : ℕ) → mask ≢ 0 → mask < 2 ^ 64 → IsLeastWord mask (trailing_zeros w64 mask)
lowest_word mask some fits =
    let lowest = bit_at-trailing_zeros w64 mask (omega (arith, some)) fits in (
      ap (λ b. b == 1) lowest.1,
      λ i is. elim (cases_lt i (trailing_zeros w64 mask)) [
        | inl lower ↦ absurd (false≢true (sym (ap (λ b. b == 1) (lowest.2 i lower)) ∙ is))
        | inr later ↦ later
      ],
    )

pub highest_word : (mask k : ℕ) → 2 ^ k ≤ mask → mask < 2 * 2 ^ k → IsGreatestWord mask k
highest_word mask k from below = (
  ap (λ n. n % 2 == 1) one,
  λ i is. elim (cases_lt k i) [
    | inl past ↦ absurd (false≢true (sym (ap (λ b. b == 1) (bit_at_above mask (k + 1) i (omega (arith, below, pow-add 2 k 1)) (omega arith))) ∙ is))
    | inr within ↦ within
  ],
)
  where
    one : mask / 2 ^ k ≡ 1
    one = div-eq_of_lt-le {k = 1} (2 ^ k) (omega (arith, from)) (omega (arith, below))
