-- The possible types of an instance, as a mask.
use Rattle.std.proofs.Common.{◌≡◌, ◌≢◌, ℕ, ◌*◌, ◌%◌, ◌^◌, ◌<◌, Bool, true, false, not, ◌||◌, List, [], ◌∷◌, refl, ap, sym, ◌∙◌, inl, inr, Some, None, arith, ltb-true}
use Rattle.std.specs.Prelude.{◌⊎◌, ◌↔◌, IsTrue, ◌==◌, nat_lt, if◌then◌else◌}
use Rattle.std.specs.Option.{option_map_or}
use Rattle.std.specs.Int.{bit_at, trailing_zeros, w128}
use Rattle.std.proofs.lemmas.Bool.{and_parts, or_cases, or_left, or_right, cases_eq, eq-eqb, eqb-true, ne_eqb, false≢true}
use Rattle.std.proofs.lemmas.Nat.{one_shl}
use Rattle.std.proofs.lemmas.Nat.Bits.{bit_at-pow_same, bit_at-pow_other, bit_at-trailing_zeros, bit_at-zero, same_from_bits}
use Rattle.std.proofs.lemmas.Option.{none-some, same_Some}
use Rattle.prod_model.specs.declared.model.Model.{Model}
use Rattle.config_value.specs.declared.literal.Literal.TheVariants as literal
use Rattle.config_value.specs.Shaped.{ascends}
use Rattle.state_space.specs.Values.{is_empty}
use Rattle.state_space.specs.Sets.{has_number}
use Rattle.state_space.specs.State.{State, IsState, number_made, kinds_at}
use Rattle.state_space.proofs.DescriptionLaws.{made_at}
use Rattle.state_space.proofs.WholeLaws.{same_members}
use Rattle.branch_cut.specs.Branching.{IsBranch}
use Rattle.branch_cut.proofs.BranchLaws.{kinds_branch}

-- a power of two has one bit
power_bit : (t k : ℕ) → bit_at (2 ^ t) k ≡ 1 → t ≡ k
power_bit t k is = elim (cases_eq k t) [
  | inl same ↦ sym same
  | inr other ↦ absurd (let none = bit_at-pow_other t k other in omega (arith, is, none))
]

-- ---- masks of one bit

module _ (mask : ℕ) (some : mask ≢ 0) (fits : mask < 2 ^ 128) where
  pub lowest : (trailing_zeros w128 mask < 128) × (bit_at mask (trailing_zeros w128 mask) ≡ 1) × ((i : ℕ) → i < trailing_zeros w128 mask → bit_at mask i ≡ 0)
  lowest = bit_at-trailing_zeros w128 mask (omega (arith, some)) fits

  -- a mask of one bit is a power of two by its lowest bit
  by_lowest : (t : ℕ) → mask ≡ 2 ^ t → t ≡ trailing_zeros w128 mask
  by_lowest t power = power_bit t (trailing_zeros w128 mask) (ap (λ n. bit_at n (trailing_zeros w128 mask)) (sym power) ∙ lowest.1)

  pub sole_mask : mask ≡ 1 * 2 ^ trailing_zeros w128 mask % 2 ^ 128 → (t : ℕ) → (Some (trailing_zeros w128 mask) ≡ Some t) ↔ (mask ≡ 2 ^ t)
  sole_mask is t = (
    λ e. is ∙ (one_shl (trailing_zeros w128 mask) 128 lowest.0 ∙ ap (λ k. 2 ^ k) (same_Some (trailing_zeros w128 mask) t e)),
    λ power. ap Some (sym (by_lowest t power)),
  )

  pub several_mask : (mask ≡ 1 * 2 ^ trailing_zeros w128 mask % 2 ^ 128 → ⊥) → (t : ℕ) → (None ≡ Some t) ↔ (mask ≡ 2 ^ t)
  several_mask other t = (
    λ e. absurd (none-some t e),
    λ power. absurd (other (power ∙ (ap (λ k. 2 ^ k) (by_lowest t power) ∙ sym (one_shl (trailing_zeros w128 mask) 128 lowest.0)))),
  )

-- ---- the types of an instance

-- the list of types of one bit
only_number : (t k : ℕ) → IsTrue (has_number (t ∷ []) k) → t ≡ k
only_number t k there = elim (or_cases (t == k) false there) [
  | inl here ↦ eqb-true t k here
  | inr none ↦ absurd (false≢true none)
]

-- what a mask says of a list of types
abbrev IsMaskOf : ℕ → List ℕ → Type 0
IsMaskOf mask kinds = (t : ℕ) → bit_at mask t ≡ (if has_number kinds t then 1 else 0)

bit_there : (mask : ℕ) (kinds : List ℕ) (t : ℕ) → IsMaskOf mask kinds → IsTrue (has_number kinds t) → bit_at mask t ≡ 1
bit_there mask kinds t bits has = bits t ∙ ap (λ b. if b then 1 else 0) has

there_bit : (mask : ℕ) (kinds : List ℕ) (t : ℕ) → IsMaskOf mask kinds → bit_at mask t ≡ 1 → IsTrue (has_number kinds t)
there_bit mask kinds t bits one = by (has_number kinds t) (sym (bits t) ∙ one)
  where
    by : (b : Bool) → ◌≡◌ {A = ℕ} (if b then 1 else 0) 1 → IsTrue b
    by true is = refl
    by false is = absurd (omega (arith, is))

-- types of a power of two are one
one_kind : (mask t : ℕ) (kinds : List ℕ) → IsMaskOf mask kinds → IsTrue (ascends kinds) → mask ≡ 2 ^ t → kinds ≡ t ∷ []
one_kind mask t kinds bits up power = same_members kinds (t ∷ []) up refl
    (λ k there. or_left (t == k) false (eq-eqb t k (power_bit t k (ap (λ n. bit_at n k) (sym power) ∙ bit_there mask kinds k bits there))))
    (λ k there. there_bit mask kinds k bits (ap (bit_at mask) (sym (only_number t k there)) ∙ (ap (λ n. bit_at n t) power ∙ bit_at-pow_same t)))

-- one type is a power of two
one_power : (mask t : ℕ) → IsMaskOf mask (t ∷ []) → mask ≡ 2 ^ t
one_power mask t bits = same_from_bits mask (2 ^ t) (λ k. bits k ∙ by k (cases_eq t k))
  where
    one_or_none : (b : Bool) (n : ℕ) → (b ≡ true → n ≡ 1) → (b ≡ false → n ≡ 0) → (if b || false then 1 else 0) ≡ n
    one_or_none true n one none = sym (one refl)
    one_or_none false n one none = sym (none refl)

    by : (k : ℕ) → (t ≡ k) ⊎ (t ≡ k → ⊥) → (if has_number (t ∷ []) k then 1 else 0) ≡ bit_at (2 ^ t) k
    by k (inl same) = one_or_none (t == k) _ (λ is. ap (bit_at (2 ^ t)) (sym same) ∙ bit_at-pow_same t) (λ is. absurd (false≢true (sym is ∙ eq-eqb t k same)))
    by k (inr other) = one_or_none (t == k) _ (λ is. absurd (false≢true (sym (ne_eqb t k other) ∙ is))) (λ is. bit_at-pow_other t k (λ e. other (sym e)))

-- where types are no power of two, there is another one beside each
other_kind : (mask t : ℕ) (kinds : List ℕ) → IsMaskOf mask kinds → IsTrue (ascends kinds) → IsTrue (not (is_empty kinds)) → ((u : ℕ) → mask ≡ 2 ^ u → ⊥)
    → (u : ℕ) × IsTrue (has_number kinds u) × (t ≢ u)
other_kind mask t [] bits up some none = absurd (false≢true some)
other_kind mask t (v ∷ []) bits up some none = absurd (none v (one_power mask v bits))
other_kind mask t (v ∷ w ∷ ks) bits up some none = by (cases_eq t v)
  where
    by : (t ≡ v) ⊎ (t ≡ v → ⊥) → (u : ℕ) × IsTrue (has_number (v ∷ w ∷ ks) u) × (t ≢ u)
    by (inr other) = (v, or_left _ _ (eq-eqb v v refl), other)
    by (inl same) =
        let less = ltb-true v w (and_parts (nat_lt v w) (ascends (w ∷ ks)) up).0 in
        (w, or_right (v == w) _ (or_left _ _ (eq-eqb w w refl)), λ e. omega (arith, less, same, e))

module _ (m : Model) (s : State) (i mask : ℕ) (state : IsState m s) (made : i < number_made s) (bits : IsMaskOf mask (kinds_at s i)) where
  -- the types ascend, and there is one
  formed : IsTrue (ascends (kinds_at s i)) × IsTrue (not (is_empty (kinds_at s i)))
  formed =
      let x = made_at s i made in
      let is = state.each i x.0 x.1 in
      let same : kinds_at s i ≡ x.0.kinds = ap (λ o. option_map_or (λ x. x.kinds) o []) x.1 in
      (ap ascends same ∙ (and_parts (ascends x.0.kinds) _ is.formed).0, ap (λ ks. not (is_empty ks)) same ∙ is.some)

  pub some_kind : mask ≢ 0
  some_kind none = by (kinds_at s i) formed.1 bits
    where
      by : (kinds : List ℕ) → IsTrue (not (is_empty kinds)) → IsMaskOf mask kinds → ⊥
      by [] some bits = false≢true some
      by (t ∷ ts) some bits = let one = bit_there mask (t ∷ ts) t bits (or_left _ _ (eq-eqb t t refl)) in let zero = ap (λ n. bit_at n t) none ∙ bit_at-zero t in omega (arith, one, zero)

  pub only_kind : (t : ℕ) → mask ≡ 2 ^ t → kinds_at s i ≡ t ∷ []
  only_kind t power = one_kind mask t (kinds_at s i) bits formed.0 power

  pub lowest_kind_branch : mask < 2 ^ 128 → ((t : ℕ) → mask ≡ 2 ^ t → ⊥)
      → IsBranch m s (record { first = literal.Kind i (trailing_zeros w128 mask); second = literal.NotKind i (trailing_zeros w128 mask) })
  lowest_kind_branch fits several =
      let t = trailing_zeros w128 mask in
      let has = there_bit mask (kinds_at s i) t bits (lowest mask some_kind fits).1 in
      let other = other_kind mask t (kinds_at s i) bits formed.0 formed.1 several in
      kinds_branch m s i t other.0 state has other.1 other.2
