-- Narrowings of sets of words by whole numbers.
use Rattle.std.proofs.Common.{◌≡◌, ℕ, ◌<◌, ◌≤◌, ◌∙◌, ap, sym, not, ◌==◌, Bool, true, false, inl, inr, ℤ, pos, ◌≤ℤ◌, ◌<ℤ◌, arith}
use Rattle.std.specs.Prelude.{nat_le, int_le, IsTrue}
use Rattle.std.specs.Ordering.{int_eq}
use Rattle.std.proofs.lemmas.Int.{ints}
use Rattle.std.proofs.lemmas.Bool.{cases_lt, cases_eq, false≢true, false_from_ne_true, eq-eqb, ne_eqb}
use Rattle.std.proofs.lemmas.Bool.Decides.{nat_tests}
use Rattle.domain_store.specs.declared.change.Change.{Change}
use Rattle.domain_store.specs.declared.change.Change.TheVariants.{Same, Empty}
use Rattle.domain_store.specs.Words.{has_word, NarrowsWords}
use Rattle.domain_store.proofs.Narrowing.{empty_narrows, same_narrows, alike}
use Rattle.domain_store.proofs.Bits.{same_mask, has_none}
use Rattle.partial_state.specs.Masks.{IsWordMask}
use Rattle.partial_state.specs.steps.Clamped.{IsClamped}

-- a word of the mask is below 64
pub word_below : (mask k : ℕ) → IsWordMask mask → IsTrue (has_word mask k) → k < 64
word_below mask k is_mask is = elim (cases_lt k 64) [
  | inl below ↦ below
  | inr past ↦ absurd (false≢true (sym (is_mask.below k past) ∙ is))
]

-- a mask has a word
pub has_some : (mask : ℕ) → IsWordMask mask → ((k : ℕ) → has_word mask k ≡ false) → ⊥
has_some mask is_mask none = is_mask.some (same_mask mask 0 (λ k. none k ∙ sym (has_none k)))

-- a number cut to that of a word compares with words as the number does
pub clamped_le : (n : ℤ) (r k : ℕ) → IsClamped n r → k < 64 → nat_le k r ≡ int_le (pos k) n
clamped_le n r k (inl same) below = ap (int_le (pos k)) same
clamped_le n r k (inr (most, past)) below =
    true_le k r (omega (arith, most)) ∙ sym (int_true (pos k) n (omega (arith, ints, past, below)))
  where
    true_le : (a b : ℕ) → a ≤ b → nat_le a b ≡ true
    true_le a b h = grind (arith, nat_tests)

    int_true : (a b : ℤ) → a ≤ℤ b → int_le a b ≡ true
    int_true a b h = grind (arith, ints)

pub clamped_ge : (n : ℤ) (r k : ℕ) → IsClamped n r → k < 64 → nat_le r k ≡ int_le n (pos k)
clamped_ge n r k (inl same) below = ap (λ v. int_le v (pos k)) same
clamped_ge n r k (inr (most, past)) below =
    false_le r k (omega (arith, most)) ∙ sym (int_false n (pos k) (omega (arith, ints, past, below)))
  where
    false_le : (a b : ℕ) → b < a → nat_le a b ≡ false
    false_le a b h = grind (arith, nat_tests)

    int_false : (a b : ℤ) → b <ℤ a → int_le a b ≡ false
    int_false a b h = grind (arith, ints)

pub same_eq : (a b : ℕ) → (a == b) ≡ int_eq (pos a) (pos b)
same_eq a b = elim (cases_eq a b) [
  | inl same ↦ eq-eqb a b same ∙ sym (is (pos a) (pos b) (ap pos same))
  | inr other ↦ ne_eqb a b other ∙ sym (is_not a b other)
]
  where
    is : (x y : ℤ) → x ≡ y → int_eq x y ≡ true
    is x y e = grind (arith, ints)

    int_ne : (x y : ℤ) → (x ≡ y → ⊥) → int_eq x y ≡ false
    int_ne x y h = grind (arith, ints)

    is_not : (a b : ℕ) → (a ≡ b → ⊥) → int_eq (pos a) (pos b) ≡ false
    is_not a b other = int_ne (pos a) (pos b) (λ e. other (omega (arith, ints)))

pub clamped_eq : (n : ℤ) (r k : ℕ) → IsClamped n r → k < 64 → (k == r) ≡ int_eq (pos k) n
clamped_eq n r k (inl same) below = same_eq k r ∙ ap (int_eq (pos k)) same
clamped_eq n r k (inr (most, past)) below =
    ne_eqb k r (λ e. absurd (omega (arith, most, e))) ∙ sym (int_ne (pos k) n (λ e. apart k n below past e))
  where
    apart : (k : ℕ) (n : ℤ) → k < 64 → pos 64 ≤ℤ n → pos k ≡ n → ⊥
    apart k n below past e = omega (arith, ints)

    int_ne : (a b : ℤ) → (a ≡ b → ⊥) → int_eq a b ≡ false
    int_ne a b h = grind (arith, ints)

-- no word is below 0
pub none_at_most : (mask : ℕ) (n : ℤ) → IsWordMask mask → n <ℤ pos 0 → NarrowsWords (λ k. int_le (pos k) n) Empty mask mask
none_at_most mask n is_mask below =
    empty_narrows has_word (λ k. int_le (pos k) n) mask mask (λ k is. not_below k n below)
    (λ all. has_some mask is_mask (λ k. false_from_ne_true (has_word mask k) (λ is. not_below k n below (all k is))))
  where
    not_below : (k : ℕ) (n : ℤ) → n <ℤ pos 0 → IsTrue (int_le (pos k) n) → ⊥
    not_below k n below h = grind (arith, ints)

pub all_at_least : (mask : ℕ) (n : ℤ) → IsWordMask mask → n <ℤ pos 0 → NarrowsWords (λ k. int_le n (pos k)) Same mask mask
all_at_least mask n is_mask below =
    same_narrows has_word (λ k. int_le n (pos k)) mask mask (λ k is. above k n below)
    (λ none. has_some mask is_mask (λ k. false_from_ne_true (has_word mask k) (λ is. none k is (above k n below))))
  where
    above : (k : ℕ) (n : ℤ) → n <ℤ pos 0 → IsTrue (int_le n (pos k))
    above k n below = grind (arith, ints)

pub all_other : (mask : ℕ) (n : ℤ) → IsWordMask mask → n <ℤ pos 0 → NarrowsWords (λ k. not (int_eq (pos k) n)) Same mask mask
all_other mask n is_mask below =
    same_narrows has_word (λ k. not (int_eq (pos k) n)) mask mask (λ k is. other k n below)
    (λ none. has_some mask is_mask (λ k. false_from_ne_true (has_word mask k) (λ is. none k is (other k n below))))
  where
    apart : (k : ℕ) (n : ℤ) → n <ℤ pos 0 → pos k ≡ n → ⊥
    apart k n below e = omega (arith, ints)

    int_ne : (a b : ℤ) → (a ≡ b → ⊥) → int_eq a b ≡ false
    int_ne a b h = grind (arith, ints)

    other : (k : ℕ) (n : ℤ) → n <ℤ pos 0 → IsTrue (not (int_eq (pos k) n))
    other k n below = ap not (int_ne (pos k) n (apart k n below))

-- tests that agree on words narrow a mask alike
pub words_alike : (test other : ℕ → Bool) (old new : ℕ) (result : Change) → IsWordMask old
    → ((k : ℕ) → k < 64 → test k ≡ other k) → NarrowsWords test result old new → NarrowsWords other result old new
words_alike test other old new result is_mask agree =
    alike has_word test old new other result (λ k is. agree k (word_below old k is_mask is))
