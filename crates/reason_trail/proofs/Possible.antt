-- What a made instance of a state has.
use Rattle.std.proofs.Common.{◌≡◌, ℕ, ◌<◌, ◌≤◌, ◌^◌, ◌∙◌, ◌==◌, refl, inl, inr, ap, sym, not, Bool, true, false, List, [], ◌∷◌, length, Some, arith, ltb-true, eqb-true}
use Rattle.std.specs.Prelude.{IsTrue, IsSome, slice_get, slice_index_or, if◌then◌else◌}
use Rattle.std.specs.Int.{bit_at, trailing_zeros, w128}
use Rattle.std.proofs.lemmas.Bool.{and_parts, or_cases, or_left, cases_eq, cases_lt, false≢true, eq-eqb}
use Rattle.std.proofs.lemmas.Nat.Bits.{bit_at-trailing_zeros, bit_at-zero}
use Rattle.base_laws.proofs.Lists.{filter_same}
use Rattle.prod_model.specs.Forest.{is_leaf, type_numbers}
use Rattle.config_value.specs.Shaped.{ascends}
use Rattle.state_space.specs.Sets.{has_number}
use Rattle.state_space.specs.Values.{is_empty}
use Rattle.state_space.specs.Descriptions.{first_kind}
use Rattle.state_space.proofs.PortLaws.{all_has, below_rest}
use Rattle.std.specs.Option.{is_some, option_map_or, option_and_then}
use Rattle.std.specs.List.{list_all, filter}
use Rattle.base_laws.proofs.Tests.{option_map_or_at}
use Rattle.prod_model.specs.declared.model.Model.{Model}
use Rattle.prod_model.specs.Limits.{most_links}
use Rattle.config_value.specs.Literals.{has_port}
use Rattle.state_space.specs.Made.{port_of_made}
use Rattle.state_space.specs.Ports.{PortState}
use Rattle.state_space.specs.State.{State, IsState, number_made, kinds_at, leaves_that, domain_at, port_at}
use Rattle.state_space.specs.Entails.{all_have_attribute, all_have_port}
use Rattle.state_space.proofs.DescriptionLaws.{port_is, made_at}
use Rattle.state_space.proofs.DescribedParts.{domain_there, one_of_all}
use Rattle.std.proofs.lemmas.Bool.Decides.{nat_tests}

module _ (m : Model) (s : State) (i : ℕ) (state : IsState m s) where
  -- it has the values of an attribute that all possible types have
  pub has_domain : (a : ℕ) → IsTrue (all_have_attribute m s i a) → IsSome (domain_at s i a)
  has_domain a all = ap is_some (domain_there m s i a state all).1

  -- and the links of a port that all have
  pub has_links : (p : ℕ) → IsTrue (all_have_port m s i p) → IsSome (port_at s i p)
  has_links p all =
      let made = option_map_or_at (λ x. list_all (λ t. has_port m t p) x.kinds) (slice_get s.made i) all in
      let is = state.each i made.0 made.1 in
      ap (λ o. is_some (option_and_then (λ x. port_of_made x p) o)) made.1
      ∙ is.has_ports p (one_of_all (λ t. has_port m t p) made.0.kinds is.some made.2)

  -- a port has no more later links than the limit
  pub few_later : (p : ℕ) (q : PortState) → port_at s i p ≡ Some q → q.fresh_high ≤ most_links
  few_later p q is = let few = (port_is m s i p q state is).few in grind (arith, nat_tests, few)

-- ---- the possible types, as the bits of a mask

-- the leaves that a mask lacks are those that are not possible
pub same_leaves : (m : Model) (mask : ℕ) (kinds : List ℕ) → ((t : ℕ) → bit_at mask t ≡ (if has_number kinds t then 1 else 0))
    → leaves_that m (λ t. not (bit_at mask t == 1)) ≡ leaves_that m (λ t. not (has_number kinds t))
same_leaves m mask kinds bits =
    filter_same (λ t. not (bit_at mask t == 1)) (λ t. not (has_number kinds t)) (λ t. ap not (ap (λ b. b == 1) (bits t) ∙ by (has_number kinds t))) (filter (is_leaf m) (type_numbers m.types))
  where
    by : (b : Bool) → ((if b then 1 else 0) == 1) ≡ b
    by true = refl
    by false = refl

-- the type of the lowest bit is the first one, and is one of them
lowest_first : (mask : ℕ) (kinds : List ℕ) → IsTrue (not (is_empty kinds)) → IsTrue (ascends kinds) → mask < 2 ^ 128 → ((t : ℕ) → bit_at mask t ≡ (if has_number kinds t then 1 else 0))
    → (trailing_zeros w128 mask ≡ slice_index_or kinds 0 0) × IsTrue (has_number kinds (trailing_zeros w128 mask))
lowest_first mask [] some sorted fits bits = absurd (false≢true some)
lowest_first mask (k ∷ ks) some sorted fits bits = (same, there)
  where
    set : bit_at mask k ≡ 1
    set = bits k ∙ ap (λ b. if b then 1 else 0) (or_left (k == k) (has_number ks k) (eq-eqb k k refl))

    positive : 0 < mask
    positive = elim (cases_eq mask 0) [
      | inl none ↦ absurd (let zero_bit : bit_at mask k ≡ 0 = ap (λ n. bit_at n k) none ∙ bit_at-zero k in omega (arith, set, zero_bit))
      | inr other ↦ omega (arith, other)
    ]

    lowest : (trailing_zeros w128 mask < 128) × (bit_at mask (trailing_zeros w128 mask) ≡ 1) × ((i : ℕ) → i < trailing_zeros w128 mask → bit_at mask i ≡ 0)
    lowest = bit_at-trailing_zeros w128 mask positive fits

    there : IsTrue (has_number (k ∷ ks) (trailing_zeros w128 mask))
    there = by (has_number (k ∷ ks) (trailing_zeros w128 mask)) (sym (bits (trailing_zeros w128 mask)) ∙ lowest.1)
      where
        by : (b : Bool) → ◌≡◌ {A = ℕ} (if b then 1 else 0) 1 → IsTrue b
        by true is = refl
        by false is = absurd (omega (arith, is))

    same : trailing_zeros w128 mask ≡ k
    same = elim (cases_lt k (trailing_zeros w128 mask)) [
      | inl after ↦ absurd (let clear = lowest.2 k after in omega (arith, clear, set))
      | inr upto ↦ elim (or_cases (k == trailing_zeros w128 mask) (has_number ks (trailing_zeros w128 mask)) there) [
        | inl here ↦ sym (eqb-true k (trailing_zeros w128 mask) here)
        | inr later ↦ absurd (let past = below_rest k ks sorted (trailing_zeros w128 mask) later in omega (arith, past, upto))
      ]
    ]

leaf_known : (m : Model) (t : ℕ) → IsTrue (is_leaf m t) → t < length m.types
unfolding is_leaf
leaf_known m t leaf = ltb-true t (length m.types) (and_parts _ _ leaf).0

pub first_possible : (m : Model) (s : State) (i mask : ℕ) → IsState m s → i < number_made s → mask < 2 ^ 128
    → ((t : ℕ) → bit_at mask t ≡ (if has_number (kinds_at s i) t then 1 else 0))
    → (trailing_zeros w128 mask ≡ first_kind s i) × (trailing_zeros w128 mask < length m.types)
first_possible m s i mask state made fits bits =
    let x = made_at s i made in
    let is = state.each i x.0 x.1 in
    let kinds : kinds_at s i ≡ x.0.kinds = ap (λ o. option_map_or (λ x. x.kinds) o []) x.1 in
    let first = lowest_first mask x.0.kinds is.some (and_parts _ _ is.formed).0 fits (λ t. bits t ∙ ap (λ ks. if has_number ks t then 1 else 0) kinds) in (
      first.0 ∙ sym (ap (λ ks. slice_index_or ks 0 0) kinds),
      leaf_known m (trailing_zeros w128 mask) (all_has (is_leaf m) x.0.kinds (trailing_zeros w128 mask) is.leaves first.1),
    )
