-- Whether the types of a mask are among those of another.
use Rattle.std.proofs.Common.{◌≡◌, ℕ, ◌<◌, ◌^◌, ◌∙◌, ap, sym, not, ◌&&◌, ◌==◌, Bool, true, false, refl, bit_and, eqb-true, eq-eqb}
use Rattle.std.specs.Prelude.{IsTrue}
use Rattle.std.specs.List.{list_all}
use Rattle.std.proofs.lemmas.Bool.{false≢true, and_parts}
use Rattle.domain_store.specs.Words.{has_word}
use Rattle.domain_store.proofs.Bits.{has_both, has_none, same_mask}
use Rattle.state_space.specs.Sets.{has_number}
use Rattle.state_space.proofs.PortLaws.{all_has, all_from_has}
use Rattle.partial_state.specs.Masks.{kinds_of}
use Rattle.partial_state.proofs.KindLaws.{has_kind}

-- tests of which each passes where the other does are equal
pub same_tests : (a b : Bool) → (IsTrue a → IsTrue b) → (IsTrue b → IsTrue a) → a ≡ b
same_tests true b to back = sym (to refl)
same_tests false true to back = back refl
same_tests false false to back = refl

module _ (kinds mask : ℕ) (fits : kinds < 2 ^ 128) (fits' : mask < 2 ^ 128) where
  -- all are among them where both masks together are the first one
  pub within_is : (bit_and kinds mask == kinds) ≡ list_all (has_number (kinds_of mask)) (kinds_of kinds)
  within_is = same_tests (bit_and kinds mask == kinds) (list_all (has_number (kinds_of mask)) (kinds_of kinds))
      (λ same. all_from_has (has_number (kinds_of mask)) (kinds_of kinds) (λ k there. among k (eqb-true (bit_and kinds mask) kinds same) there))
      (λ all. eq-eqb (bit_and kinds mask) kinds (same_mask (bit_and kinds mask) kinds (λ k. has_both kinds mask k ∙ first (has_word kinds k) (has_word mask k)
      (λ is. sym (has_kind mask k fits') ∙ all_has (has_number (kinds_of mask)) (kinds_of kinds) k all (has_kind kinds k fits ∙ is)))))
    where
      among : (k : ℕ) → bit_and kinds mask ≡ kinds → IsTrue (has_number (kinds_of kinds) k) → IsTrue (has_number (kinds_of mask) k)
      among k same there =
          let is : IsTrue (has_word kinds k) = sym (has_kind kinds k fits) ∙ there in
          let both : IsTrue (has_word kinds k && has_word mask k) = sym (has_both kinds mask k) ∙ (ap (λ n. has_word n k) same ∙ is) in
          has_kind mask k fits' ∙ (and_parts (has_word kinds k) (has_word mask k) both).1

      first : (a b : Bool) → (IsTrue a → IsTrue b) → (a && b) ≡ a
      first true b follows = follows refl
      first false b follows = refl

  -- none is where they have none together
  pub apart_is : (bit_and kinds mask == 0) ≡ list_all (λ t. not (has_number (kinds_of mask) t)) (kinds_of kinds)
  apart_is = same_tests (bit_and kinds mask == 0) (list_all (λ t. not (has_number (kinds_of mask) t)) (kinds_of kinds))
      (λ none. all_from_has (λ t. not (has_number (kinds_of mask) t)) (kinds_of kinds) (λ k there.
      ap not (has_kind mask k fits' ∙ out (has_word kinds k) (has_word mask k) (sym (has_kind kinds k fits) ∙ there)
      (sym (has_both kinds mask k) ∙ (ap (λ n. has_word n k) (eqb-true (bit_and kinds mask) 0 none) ∙ has_none k)))))
      (λ all. eq-eqb (bit_and kinds mask) 0 (same_mask (bit_and kinds mask) 0 (λ k. has_both kinds mask k ∙ (nothing (has_word kinds k) (has_word mask k)
      (λ is. ap not (sym (has_kind mask k fits')) ∙ all_has (λ t. not (has_number (kinds_of mask) t)) (kinds_of kinds) k all (has_kind kinds k fits ∙ is))
      ∙ sym (has_none k)))))
    where
      out : (a b : Bool) → IsTrue a → (a && b) ≡ false → b ≡ false
      out true b is none = none
      out false b is none = absurd (false≢true is)

      nothing : (a b : Bool) → (IsTrue a → IsTrue (not b)) → (a && b) ≡ false
      nothing true true follows = absurd (false≢true (follows refl))
      nothing true false follows = refl
      nothing false b follows = refl
