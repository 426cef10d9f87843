-- The bits of a mask of 64 bits.
use Rattle.std.proofs.Common.{◌≡◌, ℕ, ◌<◌, ◌*◌, ◌%◌, ◌-◌, ◌^◌, bit_or, bit_and, max, refl, inl, inr, arith}
use Rattle.std.proofs.Math.Nat.{one-mul, mod-eq_of_lt}
use Rattle.std.proofs.Math.Pow.{pow-lt}
use Rattle.std.specs.Prelude.{if◌then◌else◌, ◌==◌}
use Rattle.std.specs.Int.{bit_at, w64}
use Rattle.std.proofs.lemmas.Nat.Bits.{bit_at-pow_same, bit_at-pow_other, bit_at_or, bit_at_and, bit_at-lt, bit_at_clear_same, bit_at_clear_other, bit_at_above}
use Rattle.std.proofs.lemmas.Bool.{cases_eq}
use Rattle.std.proofs.lemmas.Bool.Decides.{nat_tests}

pub one_bit : (k : ℕ) → k < 64 → 1 * 2 ^ k % 2 ^ 64 ≡ 2 ^ k
one_bit k within = rw (one-mul, mod-eq_of_lt (pow-lt within)) refl

-- one more bit
pub bit_at_with : (n k i : ℕ) → bit_at (bit_or n (2 ^ k)) i ≡ (if i == k then 1 else bit_at n i)
bit_at_with n k i = elim (cases_eq i k) [
  | inl same ↦ rw (bit_at_or, same, bit_at-pow_same) (let low = bit_at-lt n k in grind (arith, nat_tests))
  | inr other ↦ rw (bit_at_or, bit_at-pow_other k i other) (grind (arith, nat_tests))
]

-- one more bit, if another mask has it
pub bit_at_with_both : (n o k i : ℕ) → bit_at (bit_or n (bit_and o (2 ^ k))) i ≡ (if i == k then max (bit_at n i) (bit_at o i) else bit_at n i)
bit_at_with_both n o k i = elim (cases_eq i k) [
  | inl same ↦ rw (bit_at_or, bit_at_and, same, bit_at-pow_same) (let low = bit_at-lt o k in grind (arith, nat_tests))
  | inr other ↦ rw (bit_at_or, bit_at_and, bit_at-pow_other k i other) (grind (arith, nat_tests))
]

-- one bit less
pub bit_at_without : (n k i : ℕ) → k < 64 → n < 2 ^ 64
    → bit_at (bit_and n (2 ^ 64 - 1 - 1 * 2 ^ k % 2 ^ 64)) i ≡ (if i == k then 0 else bit_at n i)
bit_at_without n k i within fits =
    grind (
      arith,
      nat_tests,
      bit_at_clear_same w64 n k within,
      bit_at_clear_other w64 n k within i,
      bit_at_above n 64 i fits,
      bit_at_and n (2 ^ 64 - 1 - 1 * 2 ^ k % 2 ^ 64) i,
    )
