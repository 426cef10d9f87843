-- The bits of a word that is made from two.
use Rattle.std.proofs.Common.{◌≡◌, ℕ, zero, suc, ◌<◌, ◌%◌, ◌+◌, bit_or, bit_and, bit_xor, min, max, not, ◌&&◌, ◌||◌, ◌==◌, Bool, refl, arith}
use Rattle.std.specs.Int.{bit_at}
use Rattle.std.proofs.lemmas.Nat.Bits.{bit_at_or, bit_at_and, bit_at_xor, bit_at-lt}

-- a bit that is 1
abbrev pub has : ℕ → ℕ → Bool
has word k = bit_at word k == 1

or_bits : (x y : ℕ) → x < 2 → y < 2 → (max x y == 1) ≡ ((x == 1) || (y == 1))
or_bits zero zero low low' = refl
or_bits zero (suc zero) low low' = refl
or_bits (suc zero) zero low low' = refl
or_bits (suc zero) (suc zero) low low' = refl
or_bits (suc (suc x)) y low low' = absurd (omega arith)
or_bits x (suc (suc y)) low low' = absurd (omega arith)

and_bits : (x y : ℕ) → x < 2 → y < 2 → (min x y == 1) ≡ ((x == 1) && (y == 1))
and_bits zero zero low low' = refl
and_bits zero (suc zero) low low' = refl
and_bits (suc zero) zero low low' = refl
and_bits (suc zero) (suc zero) low low' = refl
and_bits (suc (suc x)) y low low' = absurd (omega arith)
and_bits x (suc (suc y)) low low' = absurd (omega arith)

without_bits : (x y : ℕ) → x < 2 → y < 2 → ((x + min x y) % 2 == 1) ≡ ((x == 1) && not (y == 1))
without_bits zero zero low low' = refl
without_bits zero (suc zero) low low' = refl
without_bits (suc zero) zero low low' = refl
without_bits (suc zero) (suc zero) low low' = refl
without_bits (suc (suc x)) y low low' = absurd (omega arith)
without_bits x (suc (suc y)) low low' = absurd (omega arith)

pub has_or : (a b k : ℕ) → has (bit_or a b) k ≡ (has a k || has b k)
has_or a b k = rw (bit_at_or a b k) (or_bits (bit_at a k) (bit_at b k) (bit_at-lt a k) (bit_at-lt b k))

pub has_and : (a b k : ℕ) → has (bit_and a b) k ≡ (has a k && has b k)
has_and a b k = rw (bit_at_and a b k) (and_bits (bit_at a k) (bit_at b k) (bit_at-lt a k) (bit_at-lt b k))

pub has_without : (a b k : ℕ) → has (bit_xor a (bit_and a b)) k ≡ (has a k && not (has b k))
has_without a b k = rw (bit_at_xor a (bit_and a b) k, bit_at_and a b k) (without_bits (bit_at a k) (bit_at b k) (bit_at-lt a k) (bit_at-lt b k))
