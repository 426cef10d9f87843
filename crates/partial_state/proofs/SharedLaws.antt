-- What every possible type of an instance has, by the masks of a state.
use Rattle.std.proofs.Common.{◌≡◌, ℕ, ◌<◌, ◌^◌, ◌∙◌, ap, ap₂, sym, not, ◌&&◌, ◌==◌, Bool, true, false, refl, inl, inr, List, [], ◌∷◌, length, map, Some, None, Option, arith}
use Rattle.std.specs.Prelude.{IsTrue, slice_get, slice_index_or, if◌then◌else◌}
use Rattle.std.specs.Option.{option_map_or, option_and_then, is_some}
use Rattle.std.specs.List.{list_all, list_any, range_with_len}
use Rattle.std.proofs.lemmas.Bool.{cases_lt, false≢true, and_parts, or_left, or_right, eq-eqb}
use Rattle.std.proofs.lemmas.Option.{slice_get_past}
use Rattle.std.proofs.lemmas.List.{get_or_past}
use Rattle.std.proofs.lemmas.List.FromFn.{length-map-range_with_len}
use Rattle.prod_model.specs.declared.model.Model.{Model}
use Rattle.prod_model.specs.Forest.{is_a, is_leaf}
use Rattle.prod_model.specs.TypeMasks.{IsMask}
use Rattle.config_value.specs.Literals.{has_attribute, has_port}
use Rattle.state_space.specs.Made.{MadeInstance, domain_of, port_of_made}
use Rattle.state_space.specs.Values.{Values, is_empty}
use Rattle.state_space.specs.Ports.{PortState}
use Rattle.state_space.specs.Sets.{has_number}
use Rattle.state_space.specs.State.{State, IsState, leaves_that, first_attributes, first_ports}
use Rattle.state_space.specs.Entails.{has_domain_that, has_port_that, all_kinds, all_have_attribute, all_have_port}
use Rattle.state_space.proofs.PortLaws.{all_has, has_number-filter}
use Rattle.state_space.proofs.WholeLaws.{leaf_that, types_read}
use Rattle.partial_state.specs.Masks.{kinds_of}
use Rattle.partial_state.specs.steps.Shared.{shared_domain_of, shared_port_of, shared_domain, shared_port}
use Rattle.partial_state.proofs.KindLaws.{has_kind}
use Rattle.partial_state.proofs.KindsWithin.{same_tests}

-- tests that agree on the members agree on the whole
all_agree : (p q : ℕ → Bool) (xs : List ℕ) → ((k : ℕ) → IsTrue (has_number xs k) → p k ≡ q k) → list_all p xs ≡ list_all q xs
all_agree p q [] agree = refl
all_agree p q (x ∷ xs) agree = ap₂ ◌&&◌ (agree x (or_left _ _ (eq-eqb x x refl))) (all_agree p q xs (λ k there. agree k (or_right _ _ there)))

-- ---- types under a type

-- a leaf is in the mask of the leaves under a type exactly where it is under that type
module _ (m : Model) (mask t : ℕ) (is_mask : IsMask mask (λ k. is_leaf m k && is_a m k t)) (fits : mask < 2 ^ 128) where
  leaf_under : (u : ℕ) → IsTrue (is_leaf m u) → has_number (kinds_of mask) u ≡ is_a m u t
  leaf_under u leaf = has_kind mask u fits ∙ (ap (λ b. b == 1) (is_mask u) ∙ by (is_leaf m u) (is_a m u t) leaf)
    where
      by : (b c : Bool) → IsTrue b → ((if b && c then 1 else 0) == 1) ≡ c
      by true true leaf = refl
      by true false leaf = refl
      by false c leaf = absurd (false≢true leaf)

  pub all_under : (kinds : List ℕ) → IsTrue (list_all (is_leaf m) kinds) → list_all (has_number (kinds_of mask)) kinds ≡ list_all (λ u. is_a m u t) kinds
  all_under kinds leaves =
      all_agree (has_number (kinds_of mask)) (λ u. is_a m u t) kinds (λ u there. leaf_under u (all_has (is_leaf m) kinds u leaves there))

  pub none_under : (kinds : List ℕ) → IsTrue (list_all (is_leaf m) kinds)
      → list_all (λ u. not (has_number (kinds_of mask) u)) kinds ≡ list_all (λ u. not (is_a m u t)) kinds
  none_under kinds leaves =
      all_agree (λ u. not (has_number (kinds_of mask) u)) (λ u. not (is_a m u t)) kinds
      (λ u there. ap not (leaf_under u (all_has (is_leaf m) kinds u leaves there)))

-- the possible types of an instance, where it is made
module _ (m : Model) (s : State) (i mask t : ℕ) (state : IsState m s) (is_mask : IsMask mask (λ k. is_leaf m k && is_a m k t)) (fits : mask < 2 ^ 128) where
  pub all_kinds_under : all_kinds s i (has_number (kinds_of mask)) ≡ all_kinds s i (λ u. is_a m u t)
  all_kinds_under = by (slice_get s.made i) refl
    where
      by : (o : Option MadeInstance) → slice_get s.made i ≡ o
          → option_map_or (λ x. list_all (has_number (kinds_of mask)) x.kinds) o false ≡ option_map_or (λ x. list_all (λ u. is_a m u t) x.kinds) o false
      by None at = refl
      by (Some x) at = all_under m mask t is_mask fits x.kinds (let made = state.each i x at in made.leaves)

  pub no_kinds_under : all_kinds s i (λ u. not (has_number (kinds_of mask) u)) ≡ all_kinds s i (λ u. not (is_a m u t))
  no_kinds_under = by (slice_get s.made i) refl
    where
      by : (o : Option MadeInstance) → slice_get s.made i ≡ o
          → option_map_or (λ x. list_all (λ u. not (has_number (kinds_of mask) u)) x.kinds) o false
          ≡ option_map_or (λ x. list_all (λ u. not (is_a m u t)) x.kinds) o false
      by None at = refl
      by (Some x) at = none_under m mask t is_mask fits x.kinds (let made = state.each i x at in made.leaves)

-- ---- types that have an id

-- a leaf is one of the leaves that pass exactly where it passes
leaf_passes : (m : Model) (test : ℕ → Bool) (t : ℕ) → IsTrue (is_leaf m t) → has_number (leaves_that m test) t ≡ test t
leaf_passes m test t leaf =
    same_tests (has_number (leaves_that m test) t) (test t)
    (λ there. (and_parts _ _ (sym (has_number-filter test _ t) ∙ there)).1)
    (λ passes. leaf_that m test t leaf passes)

-- The entry of an id passes, and all types have the id, exactly where the entry that they share
-- passes.
module _ {D : Type 0} (m : Model) (has : ℕ → ℕ → Bool) (n : ℕ) (types kinds : _) (parts : List (Option D)) (leaves : IsTrue (list_all (is_leaf m) kinds))
    (long : length parts ≡ n) (are : types ≡ map (λ k. leaves_that m (λ t. has k t)) (range_with_len 0 n)) (id : ℕ) (test : D → Bool) where
  shared_that : (list_all (has id) kinds && option_map_or test (slice_index_or parts id None) false)
      ≡ option_map_or test (option_and_then (λ have. if list_all (has_number have) kinds then slice_index_or parts id None else None) (slice_get types id)) false
  shared_that = elim (cases_lt id n) [
    | inl within ↦
        let at : slice_get types id ≡ Some (leaves_that m (λ t. has id t)) = ap (λ ts. slice_get ts id) are ∙ types_read (λ k. leaves_that m (λ t. has k t)) n id within in
        let same : list_all (has_number (leaves_that m (λ t. has id t))) kinds ≡ list_all (has id) kinds =
        all_agree (has_number (leaves_that m (λ t. has id t))) (has id) kinds (λ t there. leaf_passes m (λ t. has id t) t (all_has (is_leaf m) kinds t leaves there)) in
        inside (leaves_that m (λ t. has id t)) (slice_get types id) at same (slice_index_or parts id None)
    | inr past ↦
        let none : slice_get types id ≡ None =
        ap (λ ts. slice_get ts id) are ∙ slice_get_past (map (λ k. leaves_that m (λ t. has k t)) (range_with_len 0 n)) id
        (omega (arith, past, length-map-range_with_len (λ k. leaves_that m (λ t. has k t)) 0 n)) in
        let absent : slice_index_or parts id None ≡ None = get_or_past parts id None (omega (arith, past, long)) in
        outside (slice_get types id) none (slice_index_or parts id None) absent (list_all (has id) kinds)
  ]
    where
      outside : (o : Option (List ℕ)) → o ≡ None → (part : Option D) → part ≡ None → (b : Bool)
          → (b && option_map_or test part false)
          ≡ option_map_or test (option_and_then (λ have. if list_all (has_number have) kinds then part else None) o) false
      outside o none part absent b = rw (none, absent) (by b)
        where
          by : (b : Bool) → (b && false) ≡ false
          by true = refl
          by false = refl

      inside : (have : List ℕ) (o : Option (List ℕ)) → o ≡ Some have → list_all (has_number have) kinds ≡ list_all (has id) kinds → (part : Option D)
          → (list_all (has id) kinds && option_map_or test part false)
          ≡ option_map_or test (option_and_then (λ have. if list_all (has_number have) kinds then part else None) o) false
      inside have o at same part = rw (at, same) (by (list_all (has id) kinds) part)
        where
          by : (b : Bool) (part : Option D) → (b && option_map_or test part false) ≡ option_map_or test (if b then part else None) false
          by true part = refl
          by false part = refl

-- where all of some pass, one of them does
any_from_all : (test : ℕ → Bool) (kinds : List ℕ) → IsTrue (not (is_empty kinds)) → IsTrue (list_all test kinds) → IsTrue (list_any test kinds)
any_from_all test [] some all = absurd (false≢true some)
any_from_all test (k ∷ ks) some all = or_left (test k) (list_any test ks) (and_parts (test k) (list_all test ks) all).0

entry_there : {D : Type 0} (o : Option D) → IsTrue (is_some o) → true ≡ (true && option_map_or (λ d. true) o false)
entry_there None is = absurd (false≢true is)
entry_there (Some d) is = refl

-- where all types have an id, the instance has an entry
some_entry : {D : Type 0} (test : ℕ → Bool) (kinds : List ℕ) (o : Option D) → IsTrue (not (is_empty kinds)) → (IsTrue (list_any test kinds) → IsTrue (is_some o))
    → list_all test kinds ≡ (list_all test kinds && option_map_or (λ d. true) o false)
some_entry test kinds o some has = by (list_all test kinds) refl
  where
    by : (b : Bool) → list_all test kinds ≡ b → b ≡ (b && option_map_or (λ d. true) o false)
    by true all = entry_there o (has (any_from_all test kinds some all))
    by false all = refl

is_some_that : {D : Type 0} (o : Option D) → option_map_or (λ d. true) o false ≡ is_some o
is_some_that None = refl
is_some_that (Some d) = refl

-- ---- instances of a state

module _ (m : Model) (s : State) (i : ℕ) where
  -- what every possible type has passes exactly where the entry that they share does
  pub domain_that : (a : ℕ) (test : Values → Bool) → IsState m s → has_domain_that m s i a test ≡ option_map_or test (shared_domain s i a) false
  domain_that a test state = by (slice_get s.made i) refl
    where
      by : (o : Option MadeInstance) → slice_get s.made i ≡ o
          → option_map_or (λ x. list_all (λ t. has_attribute m t a) x.kinds && option_map_or test (domain_of x a) false) o false
          ≡ option_map_or test (option_and_then (shared_domain_of s.attribute_types a) o) false
      by None at = refl
      by (Some x) at =
          let made = state.each i x at in
          shared_that m (λ k t. has_attribute m t k) (length (first_attributes m)) s.attribute_types x.kinds x.domains made.leaves made.each_attribute
          state.attribute_types a test

  pub port_that : (p : ℕ) (test : PortState → Bool) → IsState m s → has_port_that m s i p test ≡ option_map_or test (shared_port s i p) false
  port_that p test state = by (slice_get s.made i) refl
    where
      by : (o : Option MadeInstance) → slice_get s.made i ≡ o
          → option_map_or (λ x. list_all (λ t. has_port m t p) x.kinds && option_map_or test (port_of_made x p) false) o false
          ≡ option_map_or test (option_and_then (shared_port_of s.port_types p) o) false
      by None at = refl
      by (Some x) at =
          let made = state.each i x at in
          shared_that m (λ k t. has_port m t k) (length (first_ports m)) s.port_types x.kinds x.ports made.leaves made.each_port
          state.port_types p test

  -- every possible type has an attribute exactly where they share its values
  pub all_have_domain : (a : ℕ) → IsState m s → all_have_attribute m s i a ≡ is_some (shared_domain s i a)
  all_have_domain a state = by (slice_get s.made i) refl ∙ (domain_that a (λ d. true) state ∙ is_some_that (shared_domain s i a))
    where
      by : (o : Option MadeInstance) → slice_get s.made i ≡ o
          → option_map_or (λ x. list_all (λ t. has_attribute m t a) x.kinds) o false
          ≡ option_map_or (λ x. list_all (λ t. has_attribute m t a) x.kinds && option_map_or (λ d. true) (domain_of x a) false) o false
      by None at = refl
      by (Some x) at = let made = state.each i x at in some_entry (λ t. has_attribute m t a) x.kinds (domain_of x a) made.some (made.has_domains a)

  pub all_have_links : (p : ℕ) → IsState m s → all_have_port m s i p ≡ is_some (shared_port s i p)
  all_have_links p state = by (slice_get s.made i) refl ∙ (port_that p (λ q. true) state ∙ is_some_that (shared_port s i p))
    where
      by : (o : Option MadeInstance) → slice_get s.made i ≡ o
          → option_map_or (λ x. list_all (λ t. has_port m t p) x.kinds) o false
          ≡ option_map_or (λ x. list_all (λ t. has_port m t p) x.kinds && option_map_or (λ q. true) (port_of_made x p) false) o false
      by None at = refl
      by (Some x) at = let made = state.each i x at in some_entry (λ t. has_port m t p) x.kinds (port_of_made x p) made.some (made.has_ports p)
