-- Sets of types as masks.
use Rattle.std.proofs.Common.{◌≡◌, ℕ, zero, suc, ◌+◌, ◌<◌, ◌≤◌, ◌^◌, ◌∙◌, ap, sym, ◌&&◌, ◌==◌, nat_lt, Bool, true, false, cond, refl, inl, inr, length, arith, lt-ltb}
use Rattle.std.specs.Prelude.{◌⊎◌, IsTrue}
use Rattle.std.specs.Int.{bit_at}
use Rattle.std.proofs.lemmas.Bool.{cases_lt, false≢true, and_parts}
use Rattle.std.proofs.lemmas.Nat.Bits.{bit_at_above, bit_at-lt}
use Rattle.prod_model.specs.Limits.{most_types}
use Rattle.domain_store.specs.declared.change.Change.{Change}
use Rattle.domain_store.specs.declared.change.Change.TheVariants.{Same, Smaller, Empty}
use Rattle.domain_store.specs.Words.{has_word, NarrowsWords}
use Rattle.state_space.specs.Sets.{has_number, is_set_below, Reduces}
use Rattle.partial_state.specs.Masks.{kinds_of}
use Rattle.partial_state.proofs.Numbers.{has_passing, fewer_or_same, set_formed}

-- the types of a mask are those whose bits are set
pub has_kind : (mask t : ℕ) → mask < 2 ^ 128 → has_number (kinds_of mask) t ≡ has_word mask t
unfolding kinds_of
has_kind mask t fits = has_passing (has_word mask) 0 128 t (omega arith) ∙ elim (cases_lt t 128) [
  | inl below ↦ inside (nat_lt t 128) (has_word mask t) (lt-ltb t 128 below)
  | inr past ↦ gone (nat_lt t 128) (has_word mask t) (ap (λ b. b == 1) (bit_at_above mask 128 t fits past))
]
  where
    inside : (b c : Bool) → b ≡ true → (b && c) ≡ c
    inside true c e = refl
    inside false c e = absurd (false≢true e)

    gone : (b c : Bool) → c ≡ false → (b && c) ≡ c
    gone true c e = refl
    gone false c e = sym e

as_bit : (n : ℕ) → n < 2 → n ≡ cond (n == 1) 1 0
as_bit zero below = refl
as_bit (suc zero) below = refl
as_bit (suc (suc n)) below = absurd (omega arith)

pub kind_bit : (mask t : ℕ) → mask < 2 ^ 128 → bit_at mask t ≡ cond (has_number (kinds_of mask) t) 1 0
kind_bit mask t fits = as_bit (bit_at mask t) (bit_at-lt mask t) ∙ ap (λ b. cond b 1 0) (sym (has_kind mask t fits))

-- a narrowing of a mask is one of its types
pub kinds_narrowed : (old new wanted : ℕ) (result : Change) → old < 2 ^ 128 → new < 2 ^ 128 → NarrowsWords (has_word wanted) result old new
    → Reduces has_number length (has_word wanted) result (kinds_of old) (kinds_of new)
unfolding kinds_of
kinds_narrowed old new wanted result fits fits' given = record {
  narrows = record {
    empty = (λ e t is. given.empty.0 e t (sym (has_kind old t fits) ∙ is), λ none. given.empty.1 (λ t is. none t (has_kind old t fits ∙ is)));
    same = (λ e t is. given.same.0 e t (sym (has_kind old t fits) ∙ is), λ all. given.same.1 (λ t is. all t (has_kind old t fits ∙ is)));
    unchanged = λ other. ap kinds_of (given.unchanged other);
    narrowed = λ other t. has_kind new t fits' ∙ given.narrowed other t ∙ ap (λ b. b && has_word wanted t) (sym (has_kind old t fits));
  };
  fewer = λ e. fewer e (fewer_or_same (has_word old) (has_word new) (within e) 0 128);
}
  where
    left : result ≡ Smaller → (t : ℕ) → has_word new t ≡ (has_word old t && has_word wanted t)
    left e = given.narrowed (λ f. absurd (let g : Smaller ≡ Empty = sym e ∙ f in cc))

    within : result ≡ Smaller → (t : ℕ) → IsTrue (has_word new t) → IsTrue (has_word old t)
    within e t is = (and_parts (has_word old t) (has_word wanted t) (sym (left e t) ∙ is)).0

    kind_below : (t : ℕ) → IsTrue (has_word old t) → t < 128
    kind_below t is = elim (cases_lt t 128) [
      | inl below ↦ below
      | inr past ↦ absurd (false≢true (sym (ap (λ b. b == 1) (bit_at_above old 128 t fits past)) ∙ is))
    ]

    fewer : result ≡ Smaller → (length (kinds_of new) < length (kinds_of old)) ⊎ ((t : ℕ) → 0 ≤ t → t < 0 + 128 → has_word old t ≡ has_word new t)
        → length (kinds_of new) < length (kinds_of old)
    fewer e (inl less) = less
    fewer e (inr agree) =
        let same = given.same.1 (λ t is. (and_parts (has_word old t) (has_word wanted t) (sym (left e t) ∙ sym (agree t (omega arith) (kind_below t is)) ∙ is)).1) in
        absurd (let g : Smaller ≡ Same = sym e ∙ same in cc)

pub kinds_formed : (mask : ℕ) → IsTrue (is_set_below most_types (kinds_of mask))
unfolding kinds_of
kinds_formed mask = set_formed 128 (has_word mask)
