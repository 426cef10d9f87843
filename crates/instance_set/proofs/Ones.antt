-- How many bits of a word are set, and how many members a set has.
use Rattle.std.proofs.Common.{◌≡◌, ℕ, zero, suc, ◌<◌, ◌≤◌, ◌+◌, ◌*◌, ◌/◌, ◌%◌, ◌^◌, ◌∙◌, ap, ap₂, sym, length, true, add_comm, lt-ltb, pow-suc, ◌&&◌, ◌==◌, nat_lt, Bool, cond, List, [], ◌∷◌, ◌++◌, refl, arith}
use Rattle.std.specs.Int.{bit_at}
use Rattle.std.specs.List.{count_by, range_with_len, sum_by}
use Rattle.std.proofs.lemmas.List.Sums.{sum_by-append, sum_by-cons, length-filter}
use Rattle.std.proofs.lemmas.Nat.Bits.{bit_at-suc, bit_at_lowest}
use Rattle.std.proofs.lemmas.Nat.{ones_cat}
use lib.Count.{ones}
use Rattle.instance_set.specs.declared.set.InstanceSet.{InstanceSet}
use Rattle.instance_set.specs.InstanceSets.{word_of, is_member, members}
use Rattle.instance_set.proofs.Bits.{has}

range_join : (a k r : ℕ) → range_with_len a (k + r) ≡ range_with_len a k ++ range_with_len (a + k) r
range_join a zero r = let e : 0 + r ≡ r = omega arith in let f : a + 0 ≡ a = omega arith in rw (e, f) refl
range_join a (suc k) r =
    let e : suc k + r ≡ suc (k + r) = omega arith in
    let f : a + suc k ≡ a + 1 + k = omega arith in
    rw (e, f) (ap (λ ns. a ∷ ns) (range_join (a + 1) k r))

-- tests that agree on the numbers of a range count as many of them
count_shifted : (p q : ℕ → Bool) (a b n : ℕ) → ((i : ℕ) → i < n → p (a + i) ≡ q (b + i)) → count_by p (range_with_len a n) ≡ count_by q (range_with_len b n)
count_shifted p q a b zero same = refl
count_shifted p q a b (suc n) same =
    let e : a + 0 ≡ a = omega arith in
    let f : b + 0 ≡ b = omega arith in
    let first : p a ≡ q b = ap p (sym e) ∙ same 0 (omega arith) ∙ ap q f in
    let next : (i : ℕ) → i < n → p (a + 1 + i) ≡ q (b + 1 + i) =
    λ i low. ap p (omega arith) ∙ same (suc i) (omega arith) ∙ ap q (omega arith) in
    sum_by-cons (λ k. cond (p k) 1 0) a (range_with_len (a + 1) n)
    ∙ ap₂ ◌+◌ (ap (λ b. cond b 1 0) first) (count_shifted p q (a + 1) (b + 1) n next)
    ∙ sym (sum_by-cons (λ k. cond (q k) 1 0) b (range_with_len (b + 1) n))

count_joined : (p : ℕ → Bool) (a k r : ℕ) → count_by p (range_with_len a (k + r)) ≡ count_by p (range_with_len a k) + count_by p (range_with_len (a + k) r)
count_joined p a k r = ap (count_by p) (range_join a k r) ∙ sum_by-append (λ n. cond (p n) 1 0) (range_with_len a k) (range_with_len (a + k) r)

lowest_one : (n : ℕ) → n < 2 → ones n ≡ cond (n == 1) 1 0
unfolding ones
lowest_one zero low = refl
lowest_one (suc zero) low = refl
lowest_one (suc (suc n)) low = absurd (omega arith)

-- as many bits are set as there are ones
ones_counted : (k n : ℕ) → n < 2 ^ k → ones n ≡ count_by (has n) (range_with_len 0 k)
unfolding ones
ones_counted zero n low = let e : n ≡ 0 = omega arith in ap ones e
ones_counted (suc k) n low =
    let half : n / 2 < 2 ^ k = omega (arith, pow-suc 2 k) in
    let whole : n ≡ n / 2 * 2 ^ 1 + n % 2 = omega arith in
    let low_bit : n % 2 < 2 ^ 1 = omega arith in
    ap ones whole ∙ ones_cat 1 (n / 2) (n % 2) low_bit
    ∙ ap₂ ◌+◌ (ones_counted k (n / 2) half) (lowest_one (n % 2) (omega arith) ∙ ap (λ b. cond (b == 1) 1 0) (sym (bit_at_lowest n)))
    ∙ add_comm (count_by (has (n / 2)) (range_with_len 0 k)) (cond (has n 0) 1 0)
    ∙ ap (λ c. cond (has n 0) 1 0 + c) (count_shifted (has (n / 2)) (has n) 0 1 k (λ i low. ap (has (n / 2)) (omega arith) ∙ ap (λ b. b == 1) (sym (bit_at-suc n i)) ∙ ap (has n) (omega arith)))
    ∙ sym (sum_by-cons (λ i. cond (has n i) 1 0) 0 (range_with_len 1 k))

module _ (s : InstanceSet) where
  -- the members of one word
  word_counted : (k : ℕ) → k < 4 → word_of s k < 2 ^ 64 → ones (word_of s k) ≡ count_by (is_member s) (range_with_len (64 * k) 64)
  word_counted k low fits =
      ones_counted 64 (word_of s k) fits
      ∙ count_shifted (has (word_of s k)) (is_member s) 0 (64 * k) 64 (λ i inside.
      let word : (64 * k + i) / 64 ≡ k = omega arith in
      let bit : (64 * k + i) % 64 ≡ 0 + i = omega arith in
      let below : nat_lt (64 * k + i) 256 ≡ true = lt-ltb (64 * k + i) 256 (omega arith) in
      sym (ap₂ (λ b c. b && c) below (ap₂ (λ n j. has (word_of s n) j) word bit)))

  -- the members of the four words
  pub ones_members : s.w0 < 2 ^ 64 → s.w1 < 2 ^ 64 → s.w2 < 2 ^ 64 → s.w3 < 2 ^ 64
      → ones s.w0 + ones s.w1 + ones s.w2 + ones s.w3 ≡ length (members s)
  ones_members first second third fourth =
      let counted : ℕ → ℕ → ℕ = λ a n. count_by (is_member s) (range_with_len a n) in
      ap₂ ◌+◌ (ap₂ ◌+◌ (ap₂ ◌+◌ (word_counted 0 (omega arith) first) (word_counted 1 (omega arith) second))
      (word_counted 2 (omega arith) third)) (word_counted 3 (omega arith) fourth)
      ∙ ap (λ n. n + counted 128 64 + counted 192 64) (sym (count_joined (is_member s) 0 64 64))
      ∙ ap (λ n. n + counted 192 64) (sym (count_joined (is_member s) 0 128 64))
      ∙ sym (count_joined (is_member s) 0 192 64)
      ∙ sym (length-filter (is_member s) (range_with_len 0 256))
