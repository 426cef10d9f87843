-- Sets of one type, and sets with one type less, as masks.
use Rattle.std.proofs.Common.{◌≡◌, ◌≢◌, ℕ, ◌<◌, ◌*◌, ◌%◌, ◌^◌, ◌∙◌, ap, sym, ◌||◌, ◌==◌, Bool, true, false, cond, refl, inl, inr, List, [], ◌∷◌, Some, None, Option, arith}
use Rattle.std.specs.Prelude.{◌⊎◌, IsTrue}
use Rattle.std.specs.Int.{bit_at, trailing_zeros, w128}
use Rattle.std.proofs.lemmas.Bool.{and_parts, or_cases, or_left, cases_eq, false≢true, eq-eqb, eqb-true, ne_eqb}
use Rattle.std.proofs.lemmas.Nat.{one_shl}
use Rattle.std.proofs.lemmas.Nat.Bits.{bit_at-pow_same, bit_at-pow_other, bit_at-trailing_zeros, same_from_bits}
use Rattle.state_space.specs.Sets.{has_number}
use Rattle.state_space.proofs.WholeLaws.{same_members}
use Rattle.partial_state.specs.Masks.{kinds_of}
use Rattle.partial_state.specs.steps.Openings.{sole_of}
use Rattle.partial_state.proofs.KindLaws.{has_kind, kind_bit, kinds_formed}

-- the one number of a list
only_number : (t k : ℕ) → IsTrue (has_number (t ∷ []) k) → t ≡ k
only_number t k there = elim (or_cases (t == k) false there) [
  | inl here ↦ eqb-true t k here
  | inr none ↦ absurd (false≢true none)
]

-- the bits of a power of two
power_bit : (t k : ℕ) → bit_at (2 ^ t) k ≡ 1 → t ≡ k
power_bit t k is = elim (cases_eq k t) [
  | inl same ↦ sym same
  | inr other ↦ absurd (let none = bit_at-pow_other t k other in omega (arith, is, none))
]

-- a mask of one bit is a set of one type
pub one_kind : (mask t : ℕ) → mask < 2 ^ 128 → mask ≡ 2 ^ t → kinds_of mask ≡ t ∷ []
one_kind mask t fits is =
    same_members (kinds_of mask) (t ∷ []) (and_parts _ _ (kinds_formed mask)).0 refl
    (λ k there.
    let bit : bit_at mask k ≡ 1 = eqb-true (bit_at mask k) 1 (sym (has_kind mask k fits) ∙ there) in
    or_left (t == k) false (eq-eqb t k (power_bit t k (ap (λ n. bit_at n k) (sym is) ∙ bit))))
    (λ k there.
    let same = only_number t k there in
    has_kind mask k fits ∙ eq-eqb (bit_at mask k) 1 (ap (λ n. bit_at n k) is ∙ (ap (bit_at (2 ^ t)) (sym same) ∙ bit_at-pow_same t)))

-- and a set of one type is a mask of one bit
pub one_bit : (mask t : ℕ) → mask < 2 ^ 128 → kinds_of mask ≡ t ∷ [] → mask ≡ 2 ^ t
one_bit mask t fits is = same_from_bits mask (2 ^ t) (λ k. kind_bit mask k fits ∙ (ap (λ ts. cond (has_number ts k) 1 0) is ∙ by k (cases_eq t k)))
  where
    one_or_none : (b : Bool) (n : ℕ) → (b ≡ true → n ≡ 1) → (b ≡ false → n ≡ 0) → cond (b || false) 1 0 ≡ n
    one_or_none true n one none = sym (one refl)
    one_or_none false n one none = sym (none refl)

    by : (k : ℕ) → (t ≡ k) ⊎ (t ≡ k → ⊥) → cond (has_number (t ∷ []) k) 1 0 ≡ bit_at (2 ^ t) k
    by k (inl same) = one_or_none (t == k) _ (λ is. ap (bit_at (2 ^ t)) (sym same) ∙ bit_at-pow_same t) (λ is. absurd (false≢true (sym is ∙ eq-eqb t k same)))
    by k (inr other) = one_or_none (t == k) _ (λ is. absurd (false≢true (sym (ne_eqb t k other) ∙ is))) (λ is. bit_at-pow_other t k (λ e. other (sym e)))

-- what is the only number of a set
pub sole_is : (kinds : List ℕ) (t : ℕ) → sole_of kinds ≡ Some t → kinds ≡ t ∷ []
sole_is [] t is = absurd cc
sole_is (u ∷ []) t is = ap (λ k. k ∷ []) cc
sole_is (u ∷ v ∷ us) t is = absurd cc

module _ (mask : ℕ) (some : mask ≢ 0) (fits : mask < 2 ^ 128) where
  lowest : (trailing_zeros w128 mask < 128) × (bit_at mask (trailing_zeros w128 mask) ≡ 1) × ((i : ℕ) → i < trailing_zeros w128 mask → bit_at mask i ≡ 0)
  lowest = bit_at-trailing_zeros w128 mask (omega (arith, some)) fits

  pub sole_mask : mask ≡ 1 * 2 ^ trailing_zeros w128 mask % 2 ^ 128 → Some (trailing_zeros w128 mask) ≡ sole_of (kinds_of mask)
  sole_mask is =
      let t = trailing_zeros w128 mask in
      sym (ap sole_of (one_kind mask t fits (is ∙ one_shl t 128 lowest.0)))

  pub several_mask : (mask ≡ 1 * 2 ^ trailing_zeros w128 mask % 2 ^ 128 → ⊥) → None ≡ sole_of (kinds_of mask)
  several_mask other = by (sole_of (kinds_of mask)) refl
    where
      by : (o : Option ℕ) → sole_of (kinds_of mask) ≡ o → None ≡ o
      by None is = refl
      by (Some t) is =
          let power : mask ≡ 2 ^ t = one_bit mask t fits (sole_is (kinds_of mask) t is) in
          let least : t ≡ trailing_zeros w128 mask = power_bit t (trailing_zeros w128 mask) (ap (λ n. bit_at n (trailing_zeros w128 mask)) (sym power) ∙ lowest.1) in
          absurd (other (power ∙ (ap (λ k. 2 ^ k) least ∙ sym (one_shl (trailing_zeros w128 mask) 128 lowest.0))))
