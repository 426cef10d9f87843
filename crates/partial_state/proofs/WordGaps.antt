-- The first gap of a set of words from a number on.
use Rattle.std.proofs.Common.{◌≡◌, ℕ, ◌<◌, ◌≤◌, ◌∙◌, ap, sym, Bool, false, inl, inr, ℤ, pos, negsuc, ◌≤ℤ◌, ◌<ℤ◌, Some, None, arith}
use Rattle.std.specs.Prelude.{IsTrue}
use Rattle.std.proofs.lemmas.Int.{ints}
use Rattle.std.proofs.lemmas.Bool.{cases_lt, false≢true}
use Rattle.domain_store.specs.Gaps.{IsGap, IsNextGap}
use Rattle.domain_store.specs.Words.{has_word, IsGreatestWord}
use Rattle.state_space.specs.Values.{Words, has_value}
use Rattle.partial_state.specs.Masks.{words_of, IsWordMask}
use Rattle.partial_state.specs.steps.Clamped.{IsClamped}
use Rattle.partial_state.proofs.ValueNarrowings.{word_value, no_negative}
use Rattle.partial_state.proofs.WordNarrowings.{word_below}

module _ (mask high : ℕ) (is_mask : IsWordMask mask) (greatest : IsGreatestWord mask high) where
  abbrev has : ℤ → Bool
  has v = has_value (Words (words_of mask)) v

  there : IsTrue (has (pos high))
  there = word_value mask high is_mask ∙ greatest.0

  -- no number below 0 is a word
  pub gap_below_words : (from : ℤ) → from <ℤ pos 0 → IsNextGap has from (Some from)
  gap_below_words (pos n) below = absurd (omega (arith, ints, below))
  gap_below_words (negsuc n) below = (
    grind (arith, ints),
    record {
      missing = no_negative mask n;
      greater = pos high;
      above = grind (arith, ints);
      there = there;
    },
    λ v late gap. late,
  )

  -- a word that is missing below a value is below the greatest word
  word_gap : (k : ℕ) → IsGap has (pos k) → (has_word mask k ≡ false) × (k < high)
  word_gap k gap = (
    missing,
    elim (cases_lt k high) [
      | inl below ↦ below
      | inr past ↦ absurd (false≢true (sym missing ∙ ap (has_word mask) (same past (up_to gap.greater gap.above gap.there)) ∙ greatest.0))
    ],
  )
    where
      missing : has_word mask k ≡ false
      missing = sym (word_value mask k is_mask) ∙ gap.missing

      up_to : (v : ℤ) → pos k ≤ℤ v → IsTrue (has v) → k ≤ high
      up_to (pos n) above is = within n (greatest.1 n (sym (word_value mask n is_mask) ∙ is)) above
        where
          within : (n : ℕ) → n ≤ high → pos k ≤ℤ pos n → k ≤ high
          within n most above = omega (arith, ints)
      up_to (negsuc n) above is = absurd (false≢true (sym (no_negative mask n) ∙ is))

      same : high ≤ k → k ≤ high → k ≡ high
      same past most = omega arith

  module _ (from : ℤ) (first : ℕ) (clamped : IsClamped from first) where
    -- the numbers from there on are the words from the first on
    first_late : (k : ℕ) → IsClamped from first → from ≤ℤ pos k → first ≤ k
    first_late k (inl same) late = omega (arith, ints, same, late)
    first_late k (inr (most, past)) late = omega (arith, ints, most, past, late)

    not_below : (n : ℕ) → IsClamped from first → from ≤ℤ negsuc n → ⊥
    not_below n (inl same) late = omega (arith, ints, same, late)
    not_below n (inr (most, past)) late = omega (arith, ints, past, late)

    late_word : (k : ℕ) → IsClamped from first → first ≤ k → k < 64 → from ≤ℤ pos k
    late_word k (inl same) behind below = omega (arith, ints, same, behind)
    late_word k (inr (most, past)) behind below = absurd (omega (arith, most, behind, below))

    module _ (k : ℕ) (before : (i : ℕ) → first ≤ i → i < k → IsTrue (has_word mask i)) where
      from_there : (i : ℕ) → from ≤ℤ pos i → IsGap has (pos i) → k ≤ i
      from_there i late gap = elim (cases_lt i k) [
        | inl below ↦ absurd (false≢true (sym (word_gap i gap).0 ∙ before i (first_late i clamped late) below))
        | inr past ↦ past
      ]

      -- the first word that is missing
      pub gap_at_word : first ≤ k → k < high → has_word mask k ≡ false → IsNextGap has from (Some (pos k))
      gap_at_word behind below missing = (
        late_word k clamped behind (in_mask (word_below mask high is_mask greatest.0)),
        record {
          missing = word_value mask k is_mask ∙ missing;
          greater = pos high;
          above = under below;
          there = there;
        },
        first_of_gaps,
      )
        where
          in_mask : high < 64 → k < 64
          in_mask most = omega (arith, below)

          under : k < high → pos k ≤ℤ pos high
          under below = omega (arith, ints)

          first_of_gaps : (u : ℤ) → from ≤ℤ u → IsGap has u → pos k ≤ℤ u
          first_of_gaps (pos i) late gap = beneath i (from_there i late gap)
            where
              beneath : (i : ℕ) → k ≤ i → pos k ≤ℤ pos i
              beneath i behind = omega (arith, ints)
          first_of_gaps (negsuc i) late gap = absurd (not_below i clamped late)

      -- none is missing up to the greatest
      pub no_gap_of_words : high ≤ k → IsNextGap has from None
      no_gap_of_words past (pos i) late gap = crossed (from_there i late gap) (word_gap i gap).1
        where
          crossed : k ≤ i → i < high → ⊥
          crossed behind below = omega (arith, past)
      no_gap_of_words past (negsuc i) late gap = not_below i clamped late
