-- The bits of masks.
use Rattle.std.proofs.Common.{◌≡◌, ℕ, zero, suc, ◌<◌, ◌≤◌, ◌^◌, ◌-◌, ◌+◌, ◌*◌, ◌%◌, ◌∙◌, ap, sym, bit_and, min, not, ◌&&◌, ◌==◌, false, refl, inl, inr, arith}
use Rattle.std.specs.Prelude.{nat_le}
use Rattle.std.specs.Int.{bit_at, w64}
use Rattle.std.proofs.lemmas.Bool.{cases_eq, cases_lt, false≢true}
use Rattle.std.proofs.lemmas.Bool.Decides.{nat_tests}
use Rattle.std.proofs.lemmas.Nat.Bits.{bit_at_and, bit_at-lt, bit_at-zero, bit_at_ones, bit_at_ones_above, bit_at_mask_inside, bit_at_mask_below, bit_at-pow_same, bit_at-pow_other, bit_at_not, ones_shl, same_from_bits}
use Rattle.base_laws.proofs.Masks64.{one_bit}
use Rattle.domain_store.specs.Words.{has_word}

and_bits : (x y : ℕ) → x < 2 → y < 2 → (min x y == 1) ≡ ((x == 1) && (y == 1))
and_bits zero zero low low' = refl
and_bits zero (suc zero) low low' = refl
and_bits (suc zero) zero low low' = refl
and_bits (suc zero) (suc zero) low low' = refl
and_bits (suc (suc x)) y low low' = absurd (omega arith)
and_bits x (suc (suc y)) low low' = absurd (omega arith)

-- the words of both masks
pub has_both : (a b k : ℕ) → has_word (bit_and a b) k ≡ (has_word a k && has_word b k)
has_both a b k = rw (bit_at_and a b k) (and_bits (bit_at a k) (bit_at b k) (bit_at-lt a k) (bit_at-lt b k))

-- no mask has a word where there are no bits
pub has_none : (k : ℕ) → has_word 0 k ≡ false
has_none k = ap (λ b. b == 1) (bit_at-zero k)

same_bit : (x y : ℕ) → x < 2 → y < 2 → (x == 1) ≡ (y == 1) → x ≡ y
same_bit zero zero low low' same = refl
same_bit zero (suc zero) low low' same = absurd (false≢true same)
same_bit (suc zero) zero low low' same = absurd (false≢true (sym same))
same_bit (suc zero) (suc zero) low low' same = refl
same_bit (suc (suc x)) y low low' same = absurd (omega arith)
same_bit x (suc (suc y)) low low' same = absurd (omega arith)

-- masks of the same words are equal
pub same_mask : (a b : ℕ) → ((k : ℕ) → has_word a k ≡ has_word b k) → a ≡ b
same_mask a b same = same_from_bits a b (λ k. same_bit (bit_at a k) (bit_at b k) (bit_at-lt a k) (bit_at-lt b k) (same k))

-- ---- the masks of the words up to a number, from one on, and of one alone

pub all_words : (n k : ℕ) → 63 ≤ n → k < 64 → has_word (2 ^ 64 - 1) k ≡ nat_le k n
all_words n k high low = rw (bit_at_ones 64 k low) (grind (arith, nat_tests))

pub low_words : (n k : ℕ) → n < 63 → has_word (1 * 2 ^ (n + 1) % 2 ^ 64 - 1) k ≡ nat_le k n
low_words n k below = rw (one_bit (n + 1) (omega arith)) (elim (cases_lt k (n + 1)) [
  | inl within ↦ rw (bit_at_ones (n + 1) k within) (grind (arith, nat_tests))
  | inr past ↦ rw (bit_at_ones_above (n + 1) k past) (grind (arith, nat_tests))
])

pub high_words : (n k : ℕ) → n < 64 → k < 64 → has_word ((2 ^ 64 - 1) * 2 ^ n % 2 ^ 64) k ≡ nat_le n k
high_words n k below low = rw (ones_shl 64 n (omega arith)) (elim (cases_lt k n) [
  | inl before ↦ rw (bit_at_mask_below n 64 k before) (grind (arith, nat_tests))
  | inr from ↦ rw (bit_at_mask_inside n 64 k from low) (grind (arith, nat_tests))
])

pub one_word_alone : (n k : ℕ) → n < 64 → has_word (1 * 2 ^ n % 2 ^ 64) k ≡ (k == n)
one_word_alone n k below = rw (one_bit n below) (elim (cases_eq k n) [
  | inl same ↦ rw (same, bit_at-pow_same n) (grind (arith, nat_tests))
  | inr other ↦ rw (bit_at-pow_other n k other) (grind (arith, nat_tests))
])

other_bit : (x : ℕ) → x < 2 → (1 - x == 1) ≡ not (x == 1)
other_bit zero low = refl
other_bit (suc zero) low = refl
other_bit (suc (suc x)) low = absurd (omega arith)

-- the words that a mask hasn't
pub other_words : (n k : ℕ) → n < 2 ^ 64 → k < 64 → has_word (2 ^ 64 - 1 - n) k ≡ not (has_word n k)
other_words n k fits low = ap (λ b. b == 1) (bit_at_not w64 n k fits low) ∙ other_bit (bit_at n k) (bit_at-lt n k)
