-- Sums and multiples of numbers that lie between bounds.
use Rattle.std.proofs.Common.{ℕ, zero, suc, ◌≤◌, ◌*◌, List, [], ◌∷◌, length, refl, arith}
use Rattle.std.specs.Prelude.{ℤ, pos, negsuc, ◌+ℤ◌, ◌-ℤ◌, ◌*ℤ◌, ◌≤ℤ◌}
use Rattle.std.specs.Int.{int_min, int_max}
use Rattle.std.specs.List.{fold}
use Rattle.std.proofs.Math.IntN.{suc_ℤ-*ℤ, pred_ℤ-*ℤ, pos-*ℤ-pos, pos-*ℤ-negsuc, zero-*ℤ}
use Rattle.std.proofs.Math.Nat.{mul-le-mul_right}
use Rattle.std.proofs.lemmas.Int.{ints, clamps}
use Rattle.prod_model.specs.ExprBounds.{sum_of}
use Rattle.base_laws.specs.Places.{IsAt}

-- the number is the low one, the high one or between them
abbrev pub IsBetweenNumbers : ℤ → ℤ → ℤ → Type 0
IsBetweenNumbers low high n = (low ≤ℤ n) × (n ≤ℤ high)

-- as many numbers as the list has, between a and b each, after s
sum_after : (a b s : ℤ) (ns : List ℤ) → ((k : ℕ) (n : ℤ) → IsAt ns k n → IsBetweenNumbers a b n)
    → IsBetweenNumbers (s +ℤ pos (length ns) *ℤ a) (s +ℤ pos (length ns) *ℤ b) (fold ◌+ℤ◌ s ns)
sum_after a b s [] each = (omega (arith, ints, zero-*ℤ a), omega (arith, ints, zero-*ℤ b))
sum_after a b s (n ∷ ns) each =
    let first = each 0 n refl in
    let rest = sum_after a b (s +ℤ n) ns (λ k. each (suc k)) in
    (omega (arith, ints, first.0, rest.0, suc_ℤ-*ℤ (pos (length ns)) a), omega (arith, ints, first.1, rest.1, suc_ℤ-*ℤ (pos (length ns)) b))

-- the sum of numbers between a and b each
sum_between : (a b : ℤ) (ns : List ℤ) → ((k : ℕ) (n : ℤ) → IsAt ns k n → IsBetweenNumbers a b n)
    → IsBetweenNumbers (pos (length ns) *ℤ a) (pos (length ns) *ℤ b) (sum_of ns)
sum_between a b ns each = let whole = sum_after a b (pos 0) ns each in (omega (arith, ints, whole.0), omega (arith, ints, whole.1))

-- n times a, where n is between l and h, is at least the least of l times a and h times a
times_low : (l n h : ℕ) (a : ℤ) → l ≤ n → n ≤ h → int_min (pos l *ℤ a) (pos h *ℤ a) ≤ℤ (pos n *ℤ a)
times_low l n h (pos k) low high =
    let less : l * k ≤ n * k = mul-le-mul_right k low in
    omega (arith, ints, clamps, less, pos-*ℤ-pos l k, pos-*ℤ-pos n k)
times_low l n h (negsuc k) low high =
    let more : n * suc k ≤ h * suc k = mul-le-mul_right (suc k) high in
    omega (arith, ints, clamps, more, pos-*ℤ-negsuc n k, pos-*ℤ-negsuc h k)

-- the same times b is at most the greatest of l times b and h times b
times_high : (l n h : ℕ) (b : ℤ) → l ≤ n → n ≤ h → (pos n *ℤ b) ≤ℤ int_max (pos l *ℤ b) (pos h *ℤ b)
times_high l n h (pos k) low high =
    let more : n * k ≤ h * k = mul-le-mul_right k high in
    omega (arith, ints, clamps, more, pos-*ℤ-pos n k, pos-*ℤ-pos h k)
times_high l n h (negsuc k) low high =
    let less : l * suc k ≤ n * suc k = mul-le-mul_right (suc k) low in
    omega (arith, ints, clamps, less, pos-*ℤ-negsuc l k, pos-*ℤ-negsuc n k)

-- The sum of l to h numbers between a and b each.
pub sum_of_some_between : (l h : ℕ) (a b : ℤ) (ns : List ℤ) → l ≤ length ns → length ns ≤ h → ((k : ℕ) (n : ℤ) → IsAt ns k n → IsBetweenNumbers a b n)
    → IsBetweenNumbers (int_min (pos l *ℤ a) (pos h *ℤ a)) (int_max (pos l *ℤ b) (pos h *ℤ b)) (sum_of ns)
sum_of_some_between l h a b ns low high each =
    let whole = sum_between a b ns each in
    let least = times_low l (length ns) h a low high in
    let most = times_high l (length ns) h b low high in
    (omega (arith, ints, whole.0, least), omega (arith, ints, whole.1, most))

-- multiples of greater numbers are as great, by a factor from 0 on
times_more : (k : ℕ) (a b : ℤ) → a ≤ℤ b → (pos k *ℤ a) ≤ℤ (pos k *ℤ b)
times_more zero a b less = omega (arith, ints, zero-*ℤ a, zero-*ℤ b)
times_more (suc k) a b less = let rest = times_more k a b less in omega (arith, ints, rest, less, suc_ℤ-*ℤ (pos k) a, suc_ℤ-*ℤ (pos k) b)

-- and as small, by a factor below 0
times_less : (k : ℕ) (a b : ℤ) → a ≤ℤ b → (negsuc k *ℤ b) ≤ℤ (negsuc k *ℤ a)
times_less zero a b less = omega (arith, ints, less, pred_ℤ-*ℤ (pos 0) a, pred_ℤ-*ℤ (pos 0) b, zero-*ℤ a, zero-*ℤ b)
times_less (suc k) a b less = let rest = times_less k a b less in omega (arith, ints, rest, less, pred_ℤ-*ℤ (negsuc k) a, pred_ℤ-*ℤ (negsuc k) b)

-- A multiple of a number between a and b.
pub multiple_between : (k a b n : ℤ) → IsBetweenNumbers a b n → IsBetweenNumbers (int_min (k *ℤ a) (k *ℤ b)) (int_max (k *ℤ a) (k *ℤ b)) (k *ℤ n)
multiple_between (pos k) a b n between =
    let low = times_more k a n between.0 in
    let high = times_more k n b between.1 in
    (omega (arith, ints, clamps, low), omega (arith, ints, clamps, high))
multiple_between (negsuc k) a b n between =
    let high = times_less k a n between.0 in
    let low = times_less k n b between.1 in
    (omega (arith, ints, clamps, low), omega (arith, ints, clamps, high))

-- A difference of two numbers.
pub difference_between : (a b c d n k : ℤ) → IsBetweenNumbers a b n → IsBetweenNumbers c d k → IsBetweenNumbers (a -ℤ d) (b -ℤ c) (n -ℤ k)
difference_between a b c d n k first second = (omega (arith, ints, first.0, second.1), omega (arith, ints, first.1, second.0))
