-- The bits of a mask of 128 bits.
use Rattle.std.proofs.Common.{◌≡◌, ℕ, ◌-◌, ◌<◌, ◌*◌, ◌%◌, ◌^◌, bit_or, bit_and, arith}
use Rattle.std.proofs.Math.Nat.{one-mul, mod-eq_of_lt}
use Rattle.std.proofs.Math.Pow.{pow-lt}
use Rattle.std.proofs.Math.ListN.{replicate, length-replicate}
use Rattle.std.specs.Prelude.{if◌then◌else◌, ◌==◌, nat_lt, slice_index}
use Rattle.std.specs.Int.{bit_at, w128}
use Rattle.std.proofs.lemmas.Nat.Bits.{bit_at_set_same, bit_at_set_other, bit_at_clear_same, bit_at_clear_other, bit_at_above, bit_at_ones, bit_at_ones_above, bit_at_and, bit_at-zero}
use Rattle.std.proofs.lemmas.List.{get_or-replicate, get_or_past}
use Rattle.std.proofs.lemmas.Bool.Decides.{nat_tests}

-- one more bit
pub bit_at_with : (n k i : ℕ) → k < 128 → bit_at (bit_or n (1 * 2 ^ k % 2 ^ 128)) i ≡ (if i == k then 1 else bit_at n i)
bit_at_with n k i within = grind (arith, nat_tests, bit_at_set_same w128 n k within, bit_at_set_other w128 n k within i)

-- one bit less
pub bit_at_without : (n k i : ℕ) → k < 128 → n < 2 ^ 128 → bit_at (bit_and n (2 ^ 128 - 1 - 1 * 2 ^ k % 2 ^ 128)) i ≡ (if i == k then 0 else bit_at n i)
bit_at_without n k i within fits =
    grind (
      arith,
      nat_tests,
      bit_at_clear_same w128 n k within,
      bit_at_clear_other w128 n k within i,
      bit_at_above n 128 i fits,
      bit_at_and n (2 ^ 128 - 1 - 1 * 2 ^ k % 2 ^ 128) i,
    )

-- the first bits alone
pub bit_at_first : (k i : ℕ) → bit_at (2 ^ k - 1) i ≡ (if nat_lt i k then 1 else 0)
bit_at_first k i = grind (arith, nat_tests, bit_at_ones k i, bit_at_ones_above k i)

pub bit_at_first_below : (k i : ℕ) → k < 128 → bit_at (1 * 2 ^ k % 2 ^ 128 - 1) i ≡ (if nat_lt i k then 1 else 0)
bit_at_first_below k i within = rw (one-mul, mod-eq_of_lt (pow-lt within)) (bit_at_first k i)

-- a table of empty masks
pub bit_at_zeros : (n u i : ℕ) → bit_at (slice_index (replicate n 0) u) i ≡ 0
bit_at_zeros n u i = grind (arith, nat_tests, get_or-replicate {A = ℕ} n u 0 0, get_or_past {X = ℕ} (replicate n 0) u 0, bit_at-zero i, length-replicate)
