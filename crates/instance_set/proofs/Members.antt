-- Members of sets, word by word.
use Rattle.std.proofs.Common.{◌≡◌, ℕ, ◌<◌, ◌≤◌, ◌/◌, ◌%◌, ◌^◌, ◌*◌, ◌-◌, ◌∙◌, ap, ap₂, sym, bit_or, bit_and, bit_xor, not, ◌&&◌, ◌||◌, ◌==◌, nat_lt, Bool, true, false, refl, inl, inr, arith, eq-eqb, ne_eqb, ltb-true, ltb-false, lt-ltb}
use Rattle.std.specs.Prelude.{if◌then◌else◌}
use Rattle.std.specs.Int.{bit_at}
use Rattle.std.proofs.lemmas.Bool.{cases_eq}
use Rattle.std.proofs.lemmas.Bool.Decides.{nat_tests}
use Rattle.instance_set.specs.declared.set.InstanceSet.{InstanceSet}
use Rattle.instance_set.specs.InstanceSets.{word_of, is_member}
use Rattle.base_laws.proofs.Masks64.{one_bit, bit_at_with, bit_at_without}
use Rattle.instance_set.proofs.Bits.{has, has_or, has_and, has_without}

module _ (f : ℕ → ℕ → ℕ) (s t : InstanceSet) where
  -- the set that f makes of the words of two
  abbrev pub made : InstanceSet
  made = record { w0 = f s.w0 t.w0; w1 = f s.w1 t.w1; w2 = f s.w2 t.w2; w3 = f s.w3 t.w3 }

  made_word : (k : ℕ) → word_of made k ≡ f (word_of s k) (word_of t k)
  made_word k = by (k == 0) (k == 1) (k == 2)
    where
      by : (a b c : Bool) → (if a then f s.w0 t.w0 else (if b then f s.w1 t.w1 else (if c then f s.w2 t.w2 else f s.w3 t.w3)))
          ≡ f (if a then s.w0 else (if b then s.w1 else (if c then s.w2 else s.w3))) (if a then t.w0 else (if b then t.w1 else (if c then t.w2 else t.w3)))
      by true b c = refl
      by false true c = refl
      by false false true = refl
      by false false false = refl

  pub made_member : (g : Bool → Bool → Bool) → ((a b k : ℕ) → has (f a b) k ≡ g (has a k) (has b k))
      → (j : ℕ) → is_member made j ≡ (nat_lt j 256 && g (has (word_of s (j / 64)) (j % 64)) (has (word_of t (j / 64)) (j % 64)))
  made_member g bits j = ap (λ w. nat_lt j 256 && has w (j % 64)) (made_word (j / 64)) ∙ ap (λ b. nat_lt j 256 && b) (bits (word_of s (j / 64)) (word_of t (j / 64)) (j % 64))

pub union_member : (s t : InstanceSet) (j : ℕ) → is_member (made bit_or s t) j ≡ (is_member s j || is_member t j)
union_member s t j = made_member bit_or s t ◌||◌ has_or j ∙ by (nat_lt j 256) (has (word_of s (j / 64)) (j % 64)) (has (word_of t (j / 64)) (j % 64))
  where
    by : (a b c : Bool) → (a && (b || c)) ≡ ((a && b) || (a && c))
    by true b c = refl
    by false b c = refl

pub intersection_member : (s t : InstanceSet) (j : ℕ) → is_member (made bit_and s t) j ≡ (is_member s j && is_member t j)
intersection_member s t j = made_member bit_and s t ◌&&◌ has_and j ∙ by (nat_lt j 256) (has (word_of s (j / 64)) (j % 64)) (has (word_of t (j / 64)) (j % 64))
  where
    by : (a b c : Bool) → (a && (b && c)) ≡ ((a && b) && (a && c))
    by true b c = refl
    by false b c = refl

pub difference_member : (s t : InstanceSet) (j : ℕ) → is_member (made (λ a b. bit_xor a (bit_and a b)) s t) j ≡ (is_member s j && not (is_member t j))
difference_member s t j =
    made_member (λ a b. bit_xor a (bit_and a b)) s t (λ b c. b && not c) has_without j
    ∙ by (nat_lt j 256) (has (word_of s (j / 64)) (j % 64)) (has (word_of t (j / 64)) (j % 64))
  where
    by : (a b c : Bool) → (a && (b && not c)) ≡ ((a && b) && not (a && c))
    by true b c = refl
    by false b c = refl

-- the set has another word at one place
abbrev pub HasWord : InstanceSet → ℕ → ℕ → InstanceSet → Type 0
HasWord old k word new = (i : ℕ) → i < 4 → word_of new i ≡ (if i == k then word else word_of old i)

-- a number is its word and its bit there
same_number : (j k : ℕ) → k / 64 ≡ j / 64 → k % 64 ≡ j % 64 → k ≡ j
same_number j k word bit = omega arith

-- where g makes the bits of the new word, and gives bits other than that of j as they were
pub word_member : (old new : InstanceSet) (j word : ℕ) (g : Bool → Bool → Bool) → HasWord old (j / 64) word new
    → ((i : ℕ) → has word i ≡ g (has (word_of old (j / 64)) i) (i == (j % 64))) → ((b : Bool) → g b false ≡ b)
    → (k : ℕ) → is_member new k ≡ (nat_lt k 256 && g (has (word_of old (k / 64)) (k % 64)) (k == j))
word_member old new j word g is bits stays k = by (nat_lt k 256) refl
  where
    here : k < 256 → has (word_of new (k / 64)) (k % 64) ≡ g (has (word_of old (k / 64)) (k % 64)) (k == j)
    here low = elim (cases_eq (k / 64) (j / 64)) [
      | inl same ↦
          (let changed : word_of new (k / 64) ≡ word = is (k / 64) (omega arith) ∙ ap (λ b. if b then word else word_of old (k / 64)) (eq-eqb (k / 64) (j / 64) same) in
          let test : ((k % 64) == (j % 64)) ≡ (k == j) = elim (cases_eq (k % 64) (j % 64)) [
            | inl one ↦ eq-eqb (k % 64) (j % 64) one ∙ sym (eq-eqb k j (same_number j k same one))
            | inr other ↦ ne_eqb (k % 64) (j % 64) other ∙ sym (ne_eqb k j (λ e. other (ap (λ n. n % 64) e)))
          ] in
          ap (λ w. has w (k % 64)) changed ∙ bits (k % 64) ∙ ap₂ (λ n b. g (has (word_of old n) (k % 64)) b) (sym same) test)
      | inr apart ↦
          ap (λ w. has w (k % 64)) (is (k / 64) (omega arith) ∙ ap (λ b. if b then word else word_of old (k / 64)) (ne_eqb (k / 64) (j / 64) apart))
          ∙ sym (stays (has (word_of old (k / 64)) (k % 64)))
          ∙ ap (g (has (word_of old (k / 64)) (k % 64))) (sym (ne_eqb k j (λ e. apart (ap (λ n. n / 64) e))))
    ]

    by : (b : Bool) → nat_lt k 256 ≡ b → is_member new k ≡ (nat_lt k 256 && g (has (word_of old (k / 64)) (k % 64)) (k == j))
    by true low = ap (λ b. nat_lt k 256 && b) (here (ltb-true k 256 low))
    by false high = rw high refl

-- ---- one member more or less

with_bit : (b same : Bool) (x : ℕ) → b ≡ (x == 1) → ((if same then 1 else x) == 1) ≡ (b || same)
with_bit b true x is = grind arith
with_bit b false x is = grind arith

without_bit : (b same : Bool) (x : ℕ) → b ≡ (x == 1) → ((if same then 0 else x) == 1) ≡ (b && not same)
without_bit b true x is = grind arith
without_bit b false x is = grind arith

-- a set with one bit more has one member more
pub inserted : (old new : InstanceSet) (j own : ℕ) → j < 256 → own ≡ word_of old (j / 64)
    → HasWord old (j / 64) (bit_or own (1 * 2 ^ (j % 64) % 2 ^ 64)) new → (k : ℕ) → is_member new k ≡ (is_member old k || (k == j))
inserted old new j own low is changed k =
    word_member old new j (bit_or own (1 * 2 ^ (j % 64) % 2 ^ 64)) ◌||◌ changed bits (λ b. grind arith) k ∙ joined (nat_lt k 256) refl
  where
    bits : (i : ℕ) → has (bit_or own (1 * 2 ^ (j % 64) % 2 ^ 64)) i ≡ (has (word_of old (j / 64)) i || (i == (j % 64)))
    bits i =
        ap (λ n. has (bit_or own n) i) (one_bit (j % 64) (omega arith))
        ∙ ap (λ n. n == 1) (bit_at_with own (j % 64) i)
        ∙ with_bit (has (word_of old (j / 64)) i) (i == (j % 64)) (bit_at own i) (ap (λ w. has w i) (sym is))

    joined : (b : Bool) → nat_lt k 256 ≡ b → (nat_lt k 256 && (has (word_of old (k / 64)) (k % 64) || (k == j))) ≡ (is_member old k || (k == j))
    joined true below = grind (arith, below)
    joined false above =
        let past = ltb-false k 256 above in
        let other : (k == j) ≡ false = ne_eqb k j (λ e. omega (arith, past, e)) in
        grind (arith, above, other)

-- a set with one bit less has one member less
pub removed : (old new : InstanceSet) (j own : ℕ) → j < 256 → own ≡ word_of old (j / 64) → own < 2 ^ 64
    → HasWord old (j / 64) (bit_and own (2 ^ 64 - 1 - 1 * 2 ^ (j % 64) % 2 ^ 64)) new → (k : ℕ) → is_member new k ≡ (is_member old k && not (k == j))
removed old new j own low is fits changed k =
    word_member old new j (bit_and own (2 ^ 64 - 1 - 1 * 2 ^ (j % 64) % 2 ^ 64)) (λ b d. b && not d) changed bits (λ b. grind arith) k
    ∙ joined (nat_lt k 256)
  where
    bits : (i : ℕ) → has (bit_and own (2 ^ 64 - 1 - 1 * 2 ^ (j % 64) % 2 ^ 64)) i ≡ (has (word_of old (j / 64)) i && not (i == (j % 64)))
    bits i =
        ap (λ n. n == 1) (bit_at_without own (j % 64) i (omega arith) fits)
        ∙ without_bit (has (word_of old (j / 64)) i) (i == (j % 64)) (bit_at own i) (ap (λ w. has w i) (sym is))

    joined : (b : Bool) → (b && (has (word_of old (k / 64)) (k % 64) && not (k == j))) ≡ ((b && has (word_of old (k / 64)) (k % 64)) && not (k == j))
    joined true = refl
    joined false = refl
