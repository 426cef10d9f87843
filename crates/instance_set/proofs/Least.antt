-- The least member of a set from a number on, word by word.
use Rattle.std.proofs.Common.{◌≡◌, ℕ, zero, suc, ◌<◌, ◌≤◌, ◌+◌, ◌-◌, ◌*◌, ◌/◌, ◌%◌, ◌^◌, ◌∙◌, ap, ap₂, sym, subst, bit_and, ◌&&◌, ◌==◌, nat_lt, Bool, true, false, refl, inl, inr, arith, Some, None, Option, ltb-true, ltb-false, lt-ltb, eqb-true}
use Rattle.std.specs.Prelude.{IsTrue}
use Rattle.std.specs.Int.{bit_at, trailing_zeros, w64}
use Rattle.std.proofs.lemmas.Bool.{and_parts, and_from, cases_lt, false≢true}
use Rattle.std.proofs.lemmas.Nat.{pow-add}
use Rattle.std.proofs.Math.Nat.{div-one, div-div-eq-div-mul, div-le_self}
use Rattle.std.proofs.lemmas.Nat.Bits.{shr_and_one, bit_at-trailing_zeros, bit_at_above, bit_at-zero}
use Rattle.instance_set.specs.declared.set.InstanceSet.{InstanceSet}
use Rattle.instance_set.specs.InstanceSets.{word_of, is_member, IsLeastFrom}
use Rattle.instance_set.proofs.Bits.{has}

-- the bits of a word moved down
pub bit_at_shifted : (n s i : ℕ) → bit_at (n / 2 ^ s) i ≡ bit_at n (s + i)
bit_at_shifted n s i =
    sym (shr_and_one (n / 2 ^ s) i)
    ∙ ap (λ m. bit_and m 1) (div-div-eq-div-mul n (2 ^ s) (2 ^ i) ∙ ap (λ p. n / p) (sym (pow-add 2 s i)))
    ∙ shr_and_one n (s + i)

module _ (s : InstanceSet) where
  -- a member's bit is set
  member_bit : (j : ℕ) → IsTrue (is_member s j) → (j < 256) × IsTrue (has (word_of s (j / 64)) (j % 64))
  member_bit j is = let parts = and_parts _ _ is in (ltb-true j 256 parts.0, parts.1)

  -- and the other way round
  bit_member : (j : ℕ) → j < 256 → IsTrue (has (word_of s (j / 64)) (j % 64)) → IsTrue (is_member s j)
  bit_member j low set = and_from _ _ (lt-ltb j 256 low) set

  -- from a number on, the rest of its word has bits of members alone
  rest_of_word : ℕ → ℕ
  rest_of_word from = word_of s (from / 64) / 2 ^ (from % 64)

  -- a member of the same word is a bit of the rest
  rest_bit : (from j : ℕ) → from ≤ j → j / 64 ≡ from / 64 → (has (word_of s (j / 64)) (j % 64)) ≡ has (word_of s (from / 64) / 2 ^ (from % 64)) (j % 64 - from % 64)
  rest_bit from j later same =
      let place : from % 64 + (j % 64 - from % 64) ≡ j % 64 = omega arith in
      ap₂ (λ k i. has (word_of s k) i) same (sym place)
      ∙ ap (λ b. b == 1) (sym (bit_at_shifted (word_of s (from / 64)) (from % 64) (j % 64 - from % 64)))

  -- no member is past the last word
  pub none_past : (from : ℕ) → 256 ≤ from → IsLeastFrom s from None
  none_past from high j later is = let low = (member_bit j is).0 in absurd (omega arith)

  -- where the rest of a word is empty, the least member is that of the words after it
  pub least_after : (from : ℕ) (o : Option ℕ) → from < 256 → word_of s (from / 64) / 2 ^ (from % 64) ≡ 0
      → IsLeastFrom s (64 * (from / 64 + 1)) o → IsLeastFrom s from o
  least_after from o low empty least = by o least
    where
      skipped : (j : ℕ) → from ≤ j → j < 64 * (from / 64 + 1) → ¬ IsTrue (is_member s j)
      skipped j later before is =
          let same : j / 64 ≡ from / 64 = omega arith in
          let set = (member_bit j is).1 in
          let unset : has (word_of s (from / 64) / 2 ^ (from % 64)) (j % 64 - from % 64) ≡ false = ap (λ n. has n (j % 64 - from % 64)) empty ∙ ap (λ b. b == 1) (bit_at-zero (j % 64 - from % 64)) in
          false≢true (sym unset ∙ sym (rest_bit from j later same) ∙ set)

      by : (o : Option ℕ) → IsLeastFrom s (64 * (from / 64 + 1)) o → IsLeastFrom s from o
      by None none = λ j later is. elim (cases_lt j (64 * (from / 64 + 1))) [
        | inl before ↦ skipped j later before is
        | inr behind ↦ none j behind is
      ]
      by (Some k) found = (
        let behind = found.0 in omega arith,
        found.1,
        λ i later lower is. elim (cases_lt i (64 * (from / 64 + 1))) [
          | inl before ↦ skipped i later before is
          | inr behind ↦ found.2 i behind lower is
        ],
      )

  -- else it is the lowest bit of the rest
  pub least_here : (from : ℕ) → from < 256 → (word_of s (from / 64) / 2 ^ (from % 64) ≡ 0 → ⊥) → word_of s (from / 64) < 2 ^ 64
      → IsLeastFrom s from (Some (from + trailing_zeros w64 (word_of s (from / 64) / 2 ^ (from % 64))))
  least_here from low some fits =
      let word = word_of s (from / 64) in
      let rest = word / 2 ^ (from % 64) in
      let small : rest < 2 ^ 64 = (let less = div-le_self word (2 ^ (from % 64)) in omega (arith, less)) in
      let lowest = bit_at-trailing_zeros w64 rest (omega arith) small in
      let at : ℕ = trailing_zeros w64 rest in
      let inside : from % 64 + at < 64 = elim (cases_lt (from % 64 + at) 64) [
        | inl within ↦ within
        | inr past ↦
            (let set : bit_at word (from % 64 + at) ≡ 1 = sym (bit_at_shifted word (from % 64) at) ∙ lowest.1 in
            let unset = bit_at_above word 64 (from % 64 + at) fits past in
            absurd (omega arith))
      ] in
      let same : (from + at) / 64 ≡ from / 64 = omega arith in
      let place : (from + at) % 64 - from % 64 ≡ at = omega arith in (
        omega arith,
        bit_member (from + at) (omega arith)
            (rest_bit from (from + at) (omega arith) same ∙ ap (has rest) place ∙ ap (λ b. b == 1) lowest.1),
        λ i later lower is.
            let one : i / 64 ≡ from / 64 = omega arith in
            let unset : has rest (i % 64 - from % 64) ≡ false = ap (λ b. b == 1) (lowest.2 (i % 64 - from % 64) (omega arith)) in
            false≢true (sym unset ∙ sym (rest_bit from i later one) ∙ (member_bit i is).1),
      )

-- the same for a whole word
pub least_in_words : (s : InstanceSet) (k : ℕ) (o : Option ℕ) → k < 4 → word_of s k ≡ 0 → IsLeastFrom s (64 * (k + 1)) o → IsLeastFrom s (64 * k) o
least_in_words s k o low empty least =
    let word : 64 * k / 64 ≡ k = omega arith in
    let bit : 64 * k % 64 ≡ 0 = omega arith in
    let none : word_of s (64 * k / 64) / 2 ^ (64 * k % 64) ≡ 0 = ap₂ (λ n i. word_of s n / 2 ^ i) word bit ∙ ap (λ w. w / 2 ^ 0) empty in
    let From : ℕ → Type 0 = λ n. IsLeastFrom s (64 * (n + 1)) o in
    least_after s (64 * k) o (omega arith) none (subst From (sym word) least)

pub least_in_word : (s : InstanceSet) (k : ℕ) → k < 4 → (word_of s k ≡ 0 → ⊥) → word_of s k < 2 ^ 64
    → IsLeastFrom s (64 * k) (Some (64 * k + trailing_zeros w64 (word_of s k)))
least_in_word s k low some fits =
    let word : 64 * k / 64 ≡ k = omega arith in
    let bit : 64 * k % 64 ≡ 0 = omega arith in
    let whole : word_of s (64 * k / 64) / 2 ^ (64 * k % 64) ≡ word_of s k = ap₂ (λ n i. word_of s n / 2 ^ i) word bit ∙ div-one (word_of s k) in
    let Least : ℕ → Type 0 = λ w. IsLeastFrom s (64 * k) (Some (64 * k + trailing_zeros w64 w)) in
    subst Least whole (least_here s (64 * k) (omega arith) (λ e. some (sym whole ∙ e)) (rw word fits))
