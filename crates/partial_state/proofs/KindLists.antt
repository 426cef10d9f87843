-- The types of masks: beside one, in two, and those that have an attribute or a port.
use Rattle.std.proofs.Common.{◌≡◌, ℕ, zero, suc, ◌<◌, ◌≤◌, ◌^◌, ◌∙◌, ap, sym, bit_and, ◌&&◌, ◌==◌, not, Bool, true, false, refl, inl, inr, List, [], ◌∷◌, length, map, Option, Some, None, arith, subst, le-ltb, eqb-true}
use Rattle.std.specs.Prelude.{◌⊎◌, IsTrue, IsSome, slice_index, slice_get}
use Rattle.std.specs.Int.{w128, trailing_zeros}
use Rattle.std.specs.Int.Bits.{and_lt}
use Rattle.std.specs.Option.{is_some, option_map, option_map_or}
use Rattle.std.specs.List.{list_any, list_all, filter, filter_map, range_with_len}
use Rattle.std.proofs.lemmas.Bool.{false≢true, and_parts, and_from}
use Rattle.std.proofs.lemmas.Nat.Bits.{bit_at-trailing_zeros}
use Rattle.std.proofs.lemmas.Option.{same_Some, none-some, slice_get-map, get_or_from_slice_get}
use Rattle.base_laws.specs.Places.{IsAt}
use Rattle.base_laws.proofs.Tests.{list_any_at, list_any_from}
use Rattle.base_laws.proofs.Searches.{any_found}
use Rattle.prod_model.specs.declared.model.Model.{Model}
use Rattle.prod_model.specs.declared.model.TypeDecl.{TypeDecl}
use Rattle.prod_model.specs.declared.model.PortAt.{PortAt}
use Rattle.prod_model.specs.Forest.{is_leaf, type_numbers}
use Rattle.prod_model.specs.Taxonomy.{ports_at, port_of}
use Rattle.domain_store.specs.Words.{has_word}
use Rattle.domain_store.proofs.Bits.{has_both, has_none}
use Rattle.config_value.specs.Literals.{has_port}
use Rattle.state_space.specs.Sets.{has_number}
use Rattle.state_space.specs.State.{leaves_that}
use Rattle.state_space.proofs.PortLaws.{all_has, has_number-filter}
use Rattle.state_space.proofs.WholeLaws.{types_read, leaf_that}
use Rattle.partial_state.specs.Masks.{kinds_of}
use Rattle.partial_state.specs.steps.NewRows.{shares}
use Rattle.partial_state.proofs.KindLaws.{has_kind}
use Rattle.partial_state.proofs.PassingNumbers.{filter_none, filter_cut, filter_filter, least_first, filter_map_filter}

-- no types where there are no bits
pub kinds_of_none : kinds_of 0 ≡ []
unfolding kinds_of
kinds_of_none = filter_none (has_word 0) 0 128 (λ k from below. has_none k)

-- the type of the lowest bit, and then the others
pub kinds_next : (mask others t : ℕ) → t < 128 → has_word mask t ≡ true → ((k : ℕ) → k < t → has_word mask k ≡ false)
    → ((k : ℕ) → has_word others k ≡ (has_word mask k && not (k == t))) → kinds_of mask ≡ t ∷ kinds_of others
unfolding kinds_of
kinds_next mask others t below is before left = least_first (has_word mask) (has_word others) 0 128 t (omega arith) (omega (arith, below)) is before left

-- the types of a mask whose bits are those of the numbers below n that pass
pub kinds_that : (mask n : ℕ) (test : ℕ → Bool) → n ≤ 128 → ((k : ℕ) → k < n → has_word mask k ≡ test k) → ((k : ℕ) → n ≤ k → has_word mask k ≡ false)
    → kinds_of mask ≡ filter test (range_with_len 0 n)
unfolding kinds_of
kinds_that mask n test few agree none =
    filter_cut (has_word mask) test 0 n 128 few (λ k from below. agree k (omega (arith, below))) (λ k from below. none k (omega (arith, from)))

-- what is no type is no leaf
pub no_leaf : (m : Model) (t : ℕ) → length m.types ≤ t → is_leaf m t ≡ false
unfolding is_leaf
no_leaf m t past = ap (λ b. b && list_all (λ (d : TypeDecl). not (option_map_or (λ p. p == t) d.parent false)) m.types) (le-ltb t (length m.types) past)

-- the types of a mask whose bits are those of the leaves that pass
pub kinds_leaves : (m : Model) (mask : ℕ) (test : ℕ → Bool) → length m.types ≤ 128 → ((k : ℕ) → has_word mask k ≡ (is_leaf m k && test k))
    → kinds_of mask ≡ leaves_that m test
kinds_leaves m mask test few agree =
    kinds_that mask (length m.types) (λ k. is_leaf m k && test k) few (λ k below. agree k) (λ k past. agree k ∙ ap (λ b. b && test k) (no_leaf m k past))
    ∙ sym (filter_filter (is_leaf m) test (type_numbers m.types))

-- a type of a mask of leaves is one
pub kind_is_leaf : (m : Model) (kinds t : ℕ) → kinds < 2 ^ 128 → IsTrue (list_all (is_leaf m) (kinds_of kinds)) → IsTrue (has_word kinds t) → IsTrue (is_leaf m t)
kind_is_leaf m kinds t fits leaves is = all_has (is_leaf m) (kinds_of kinds) t leaves (has_kind kinds t fits ∙ is)

-- a number at a place is in the set
at_has : (ks : List ℕ) (i k : ℕ) → IsAt ks i k → IsTrue (has_number ks k)
at_has ks i k at = list_any_from (λ j. j == k) ks i k at (let e : (k == k) ≡ true = grind arith in e)

-- two masks with a type in common
both_not_none : (a b t : ℕ) → IsTrue (has_word a t) → IsTrue (has_word b t) → (bit_and a b ≡ 0) → ⊥
both_not_none a b t is is' none = false≢true (sym (has_none t) ∙ ap (λ n. has_word n t) (sym none) ∙ has_both a b t ∙ and_from _ _ is is')

-- the lowest bit that two masks have in common
below_both : (a b : ℕ) → (bit_and a b == 0) ≡ false → a < 2 ^ 128 → b < 2 ^ 128 → IsTrue (has_word (bit_and a b) (trailing_zeros w128 (bit_and a b)))
below_both a b some fit fits =
    let few : bit_and a b < 2 ^ 128 = and_lt 128 a b fit fits in
    let low = bit_at-trailing_zeros w128 (bit_and a b) (not_none (bit_and a b) some) few in
    ap (λ n. n == 1) low.1
  where
    not_none : (n : ℕ) → (n == 0) ≡ false → 0 < n
    not_none zero some = absurd (false≢true (sym some))
    not_none (suc n) some = omega arith

module _ (m : Model) (has : ℕ → ℕ → Bool) (masks : List ℕ) (n kinds : ℕ)
    (fit : (a : ℕ) → slice_index masks a < 2 ^ 128) (fits : kinds < 2 ^ 128)
    (types : map kinds_of masks ≡ map (λ a. leaves_that m (λ t. has t a)) (range_with_len 0 n))
    (leaves : IsTrue (list_all (is_leaf m) (kinds_of kinds))) where
  -- the types of a mask at its place
  at_place : (a : ℕ) → a < n → kinds_of (slice_index masks a) ≡ leaves_that m (λ t. has t a)
  at_place a within = by (slice_get masks a) refl
    where
      read : IsAt (map kinds_of masks) a (leaves_that m (λ t. has t a))
      read = ap (λ l. slice_get l a) types ∙ types_read (λ a. leaves_that m (λ t. has t a)) n a within

      by : (o : Option ℕ) → slice_get masks a ≡ o → kinds_of (slice_index masks a) ≡ leaves_that m (λ t. has t a)
      by None is = absurd (none-some _ (sym (slice_get-map kinds_of masks a ∙ ap (option_map kinds_of) is) ∙ read))
      by (Some x) is =
          ap kinds_of (get_or_from_slice_get masks a x 0 is)
          ∙ same_Some (kinds_of x) (leaves_that m (λ t. has t a)) (sym (slice_get-map kinds_of masks a ∙ ap (option_map kinds_of) is) ∙ read)

  -- a type of the mask has what stands there
  pub type_has : (a t : ℕ) → a < n → IsTrue (has_word (slice_index masks a) t) → IsTrue (has t a)
  type_has a t within is =
      let there : IsTrue (has_number (leaves_that m (λ t. has t a)) t) = ap (λ l. has_number l t) (sym (at_place a within)) ∙ has_kind (slice_index masks a) t (fit a) ∙ is in
      (and_parts _ _ (sym (has_number-filter (λ t. has t a) (filter (is_leaf m) (type_numbers m.types)) t) ∙ there)).1

  -- and a leaf that has it is one of the mask
  pub has_type : (a t : ℕ) → a < n → IsTrue (is_leaf m t) → IsTrue (has t a) → IsTrue (has_word (slice_index masks a) t)
  has_type a t within leaf is =
      sym (has_kind (slice_index masks a) t (fit a)) ∙ ap (λ l. has_number l t) (at_place a within) ∙ leaf_that m (λ t. has t a) t leaf is

  -- The masks have a bit in common exactly where one of the types has it.
  pub shares_type : (a : ℕ) → a < n → shares (slice_index masks a) kinds ≡ list_any (λ t. has t a) (kinds_of kinds)
  shares_type a within = by (bit_and (slice_index masks a) kinds == 0) refl (list_any (λ t. has t a) (kinds_of kinds)) refl
    where
      common : ℕ
      common = bit_and (slice_index masks a) kinds

      by : (b : Bool) → (common == 0) ≡ b → (c : Bool) → list_any (λ t. has t a) (kinds_of kinds) ≡ c → not b ≡ c
      by true none false is = refl
      by false some true is = refl
      by true none true is =
          let found = list_any_at (λ t. has t a) (kinds_of kinds) is in
          let kind : IsTrue (has_word kinds found.1) = sym (has_kind kinds found.1 fits) ∙ at_has (kinds_of kinds) found.0 found.1 found.2 in
          let zero_is : common ≡ 0 = grind (arith, none) in
          absurd (both_not_none (slice_index masks a) kinds found.1 (has_type a found.1 within (kind_is_leaf m kinds found.1 fits leaves kind) found.3) kind zero_is)
      by false some false is =
          let t = trailing_zeros w128 common in
          let low = below_both (slice_index masks a) kinds some (fit a) fits in
          let both = and_parts _ _ (sym (has_both (slice_index masks a) kinds t) ∙ low) in
          let kind = list_any_at (λ j. j == t) (kinds_of kinds) (has_kind kinds t fits ∙ both.1) in
          absurd (false≢true (sym is ∙ list_any_from (λ t. has t a) (kinds_of kinds) kind.0 kind.1 kind.2 (subst (λ k. IsTrue (has k a)) (sym (eqb-true kind.1 t kind.3)) (type_has a t within both.0))))

-- ---- ports

-- a type that has a port has something under its id
pub has_port_found : (m : Model) (t p : ℕ) → has_port m t p ≡ is_some (port_of m t p)
has_port_found m t p = any_found (λ (q : PortAt). q.id == p) (ports_at m t)

module _ (m : Model) (masks : List ℕ) (n kinds : ℕ)
    (fit : (a : ℕ) → slice_index masks a < 2 ^ 128) (fits : kinds < 2 ^ 128)
    (types : map kinds_of masks ≡ map (λ a. leaves_that m (λ t. has_port m t a)) (range_with_len 0 n))
    (leaves : IsTrue (list_all (is_leaf m) (kinds_of kinds))) (p : ℕ) (within : p < n) where
  abbrev common_types : ℕ
  common_types = bit_and (slice_index masks p) kinds

  -- the types of both masks have the port
  pub common_has : (t : ℕ) → IsTrue (has_word common_types t) → IsSome (port_of m t p)
  common_has t is =
      let both = and_parts _ _ (sym (has_both (slice_index masks p) kinds t) ∙ is) in
      sym (has_port_found m t p) ∙ type_has m (λ t a. has_port m t a) masks n kinds fit fits types leaves p t within both.0

  -- and have all that the possible types have under its id
  pub common_ports : filter_map (λ t. port_of m t p) (kinds_of common_types) ≡ filter_map (λ t. port_of m t p) (kinds_of kinds)
  unfolding kinds_of
  common_ports = filter_map_filter (λ t. port_of m t p) (has_word common_types) (has_word kinds) (λ t. by t (has_word kinds t) refl (port_of m t p) refl) (range_with_len 0 128)
    where
      by : (t : ℕ) (b : Bool) → has_word kinds t ≡ b → (o : Option PortAt) → port_of m t p ≡ o → (port_of m t p ≡ None) ⊎ (has_word common_types t ≡ has_word kinds t)
      by t b is None none = inl none
      by t true is (Some q) some =
          let leaf = kind_is_leaf m kinds t fits leaves is in
          let own = has_type m (λ t a. has_port m t a) masks n kinds fit fits types leaves p t within leaf (has_port_found m t p ∙ ap is_some some) in
          inr (has_both (slice_index masks p) kinds t ∙ and_from _ _ own is ∙ sym is)
      by t false is (Some q) some =
          inr (has_both (slice_index masks p) kinds t ∙ ap (λ b. has_word (slice_index masks p) t && b) is ∙ no_more (has_word (slice_index masks p) t) ∙ sym is)
        where
          no_more : (b : Bool) → (b && false) ≡ false
          no_more true = refl
          no_more false = refl
