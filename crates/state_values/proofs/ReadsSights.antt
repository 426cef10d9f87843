-- What a state tells of types, links and values of its made instances it entails.
use Rattle.std.proofs.Common.{◌≡◌, ℕ, ◌≤◌, ◌<◌, ◌+◌, ◌==◌, ℤ, pos, ◌≤ℤ◌, Bool, true, false, not, ◌&&◌, ◌||◌, cond, List, [], ◌∷◌, length, Option, Some, None, refl, sym, ap, ◌∙◌, subst, arith, get_or}
use Rattle.std.specs.Prelude.{IsTrue, nat_le, nat_lt, int_le, slice_get, is_some}
use Rattle.std.specs.Option.{option_map_or, option_and_then}
use Rattle.std.specs.Ordering.{int_eq}
use Rattle.std.specs.List.{list_all, list_any, count_by, filter}
use Rattle.std.proofs.lemmas.Bool.{false≢true, and_parts, and_from}
use Rattle.std.proofs.lemmas.Bool.Decides.{nat_tests}
use Rattle.std.proofs.lemmas.Int.{ints}
use Rattle.std.proofs.lemmas.Option.{slice_get-get_or}
use Rattle.std.proofs.lemmas.List.Sums.{length-filter}
use Rattle.base_laws.specs.Places.{IsAt}
use Rattle.base_laws.proofs.Places.{find_at, find_place}
use Rattle.base_laws.proofs.Tests.{list_all_by, list_any_from, option_map_or_from}
use Rattle.prod_model.specs.declared.model.Model.{Model}
use Rattle.prod_model.specs.declared.model.AttrAt.{AttrAt}
use Rattle.prod_model.specs.declared.model.PortAt.{PortAt}
use Rattle.prod_model.specs.Forest.{is_a}
use Rattle.prod_model.specs.Taxonomy.{attribute_of, declared_port_of, attributes_at, ports_at, declared_ports_at}
use Rattle.prod_model.specs.Valid.{IsValid}
use Rattle.prod_model.proofs.NarrowingLaws.{IsAttributeWithin, IsPortWithin, attributes_narrow, declared_ports_narrow}
use Rattle.config_value.specs.declared.literal.Literal.TheVariants as literal
use Rattle.config_value.specs.Literals.{has_attribute, has_port}
use Rattle.state_space.specs.Sets.{has_number}
use Rattle.state_space.specs.Values.{Values, has_value, least, greatest, is_empty}
use Rattle.state_space.specs.Ports.{PortState}
use Rattle.state_space.specs.Made.{MadeInstance, domain_of, port_of_made}
use Rattle.state_space.specs.State.{State, IsState, IsMadeOf, IsPortOf, number_made, kinds_at, low_at, high_at, allows_at, domain_at}
use Rattle.state_space.specs.Entails.{entails, all_kinds, has_domain_that, has_port_that}
use Rattle.state_values.specs.Kleene.{True, False, Open}
use Rattle.state_values.specs.Sights.{is_surely_under, is_maybe_under, port_state, no_port, under_type, linked, is_closed, value_range, has_word}
use Rattle.state_values.proofs.ReadsKleene.{TruthEntailed, RangeEntailed, alone}

-- ---- lists

-- where none passes, all fail
none_passes : {A : Type 0} (test : A → Bool) (xs : List A) → list_any test xs ≡ false
    → IsTrue (list_all (λ x. not (test x)) xs)
none_passes test [] none = refl
none_passes test (x ∷ xs) none = by (test x) refl none (none_passes test xs)
  where
    by : (b : Bool) → test x ≡ b → (b || list_any test xs) ≡ false
        → (list_any test xs ≡ false → IsTrue (list_all (λ x. not (test x)) xs))
        → IsTrue (not (test x) && list_all (λ x. not (test x)) xs)
    by true is none rest = absurd (false≢true (sym none))
    by false is none rest = and_from _ _ (ap not is) (rest none)

-- where all of some pass, one does
any_of_all : (test : ℕ → Bool) (xs : List ℕ) → IsTrue (not (is_empty xs)) → IsTrue (list_all test xs)
    → IsTrue (list_any test xs)
any_of_all test [] some all = absurd (false≢true some)
any_of_all test (x ∷ xs) some all =
    list_any_from test (x ∷ xs) 0 x refl (and_parts (test x) (list_all test xs) all).0

-- what is below a number is not at it or above
step_left : (from x : ℕ) (rest : List ℕ) (b : Bool) → nat_le from x ≡ b → IsTrue (nat_lt x from)
    → length rest ≡ 0 → length (cond b (x ∷ rest) rest) ≡ 0
step_left from x rest true is below none = absurd (grind (arith, nat_tests))
step_left from x rest false is below none = none

none_left : (from : ℕ) (xs : List ℕ) → IsTrue (list_all (λ j. nat_lt j from) xs)
    → length (filter (nat_le from) xs) ≡ 0
none_left from [] below = refl
none_left from (x ∷ xs) below =
    let parts = and_parts (nat_lt x from) (list_all (λ j. nat_lt j from) xs) below in
    step_left from x (filter (nat_le from) xs) (nat_le from x) refl parts.0 (none_left from xs parts.1)

none_from : (from : ℕ) (xs : List ℕ) → IsTrue (list_all (λ j. nat_lt j from) xs)
    → count_by (nat_le from) xs ≡ 0
none_from from xs below = sym (length-filter (nat_le from) xs) ∙ none_left from xs below

-- numbers that pass the test are equal
same_number : (n k : ℤ) → int_eq n k ≡ true → n ≡ k
same_number n k is = grind (arith, ints)

-- ---- what types below have

-- a type has the ports that types above it declare
pub has_port_below : (m : Model) → IsValid m → (k t p : ℕ) (q : PortAt) → IsTrue (is_a m k t)
    → declared_port_of m t p ≡ Some q → IsTrue (has_port m k p)
has_port_below m valid k t p q under found =
    let first = find_place (λ b. b.id == p) (IsPortWithin m) (λ a b within. ap (λ n. n == p) within.same_id)
    (declared_ports_at m t) (ports_at m k) q found (declared_ports_narrow m valid.declared k t under) in
    let passes = (find_at (λ (b : PortAt). b.id == p) (declared_ports_at m t) q found).2 in
    list_any_from (λ (r : PortAt). r.id == p) (ports_at m k) first.place first.there first.stands
    (ap (λ n. n == p) first.related.same_id ∙ passes)

-- and the attributes
pub has_attribute_below : (m : Model) → IsValid m → (k t a : ℕ) (q : AttrAt) → IsTrue (is_a m k t)
    → attribute_of m t a ≡ Some q → IsTrue (has_attribute m k a)
has_attribute_below m valid k t a q under found =
    let first = find_place (λ b. b.id == a) IsAttributeWithin (λ x y within. ap (λ n. n == a) within.same_id)
    (attributes_at m t) (attributes_at m k) q found (attributes_narrow m valid.declared k t under) in
    let passes = (find_at (λ (b : AttrAt). b.id == a) (attributes_at m t) q found).2 in
    list_any_from (λ (r : AttrAt). r.id == a) (attributes_at m k) first.place first.there first.stands
    (ap (λ n. n == a) first.related.same_id ∙ passes)

module _ (m : Model) (s : State) (valid : IsValid m) (state : IsState m s) where
  -- a made instance of the state
  pub record IsThere (i : ℕ) : Type 0 where
    pub made : MadeInstance
    pub at : IsAt s.made i made
    pub of : IsMadeOf m (number_made s) made

  pub there : (i : ℕ) → i < number_made s → IsThere i
  there i below =
      let x = get_or s.made i (record { kinds = []; domains = []; ports = [] }) in
      let at = slice_get-get_or s.made i (record { kinds = []; domains = []; ports = [] }) below in
      record { made = x; at = at; of = state.each i x at }

  -- what passes of its types passes of the possible types, and back
  pub kinds_pass : (i : ℕ) (y : IsThere i) (test : ℕ → Bool) → IsTrue (list_all test (kinds_at s i))
      → IsTrue (list_all test y.made.kinds)
  kinds_pass i y test all =
      subst (λ ks. IsTrue (list_all test ks))
      (ap (λ o. option_map_or (λ (x : MadeInstance). x.kinds) o []) y.at) all

  all_kinds_from : (i : ℕ) (y : IsThere i) (test : ℕ → Bool) → IsTrue (list_all test y.made.kinds)
      → IsTrue (all_kinds s i test)
  all_kinds_from i y test all =
      option_map_or_from (λ (x : MadeInstance). list_all test x.kinds) (slice_get s.made i) y.made y.at all

  -- ---- types

  pub kind_entailed : (u i : ℕ) → i < number_made s → IsTrue (is_surely_under m s u i)
      → IsTrue (entails m s (literal.Kind i u))
  unfolding entails
  kind_entailed u i below surely =
      let y = there i below in
      all_kinds_from i y (λ t. is_a m t u) (kinds_pass i y (λ t. is_a m t u) surely)

  pub not_kind_entailed : (u i : ℕ) → i < number_made s → is_maybe_under m s u i ≡ false
      → IsTrue (entails m s (literal.NotKind i u))
  unfolding entails
  not_kind_entailed u i below never =
      let y = there i below in
      all_kinds_from i y (λ t. not (is_a m t u))
      (kinds_pass i y (λ t. not (is_a m t u)) (none_passes (λ t. is_a m t u) (kinds_at s i) never))

  -- what is surely under a type is maybe under it
  pub maybe_of_surely : (u i : ℕ) → i < number_made s → IsTrue (is_surely_under m s u i)
      → IsTrue (is_maybe_under m s u i)
  maybe_of_surely u i below surely =
      let y = there i below in
      let kinds = ap (λ o. option_map_or (λ (x : MadeInstance). x.kinds) o []) y.at in
      any_of_all (λ t. is_a m t u) (kinds_at s i)
      (subst (λ ks. IsTrue (not (is_empty ks))) (sym kinds) y.of.some) surely

  pub under_type_entailed : (u i : ℕ) → i < number_made s → TruthEntailed m s (under_type m s u i)
  under_type_entailed u i below =
      by (is_surely_under m s u i) refl (is_maybe_under m s u i) refl
    where
      by : (b : Bool) → is_surely_under m s u i ≡ b → (d : Bool) → is_maybe_under m s u i ≡ d
          → TruthEntailed m s (cond b (True (literal.Kind i u ∷ []))
          (cond d Open (False (literal.NotKind i u ∷ []))))
      by true surely d maybe = alone m s (literal.Kind i u) (kind_entailed u i below surely)
      by false surely true maybe = refl
      by false surely false maybe = alone m s (literal.NotKind i u) (not_kind_entailed u i below maybe)

  -- ---- ports

  -- a port that all possible types of a made instance have, and what it may link
  pub record IsPortThere (i p : ℕ) : Type 0 where
    pub instance : IsThere i
    pub all : IsTrue (list_all (λ t. has_port m t p) instance.made.kinds)
    pub port : PortState
    pub found : port_of_made instance.made p ≡ Some port
    pub of : IsPortOf (number_made s) port

  pub port_there : (i t p : ℕ) (q : PortAt) → i < number_made s → IsTrue (is_surely_under m s t i)
      → declared_port_of m t p ≡ Some q → IsPortThere i p
  port_there i t p q below surely declared =
      let y = there i below in
      let all : IsTrue (list_all (λ t. has_port m t p) y.made.kinds) =
      list_all_by (λ k. is_a m k t) (λ k. has_port m k p) (λ k under. has_port_below m valid k t p q under declared)
      y.made.kinds (kinds_pass i y (λ k. is_a m k t) surely) in
      let some = y.of.has_ports p (any_of_all (λ t. has_port m t p) y.made.kinds y.of.some all) in
      by y all (port_of_made y.made p) refl some
    where
      by : (y : IsThere i) → IsTrue (list_all (λ t. has_port m t p) y.made.kinds) → (o : Option PortState)
          → port_of_made y.made p ≡ o → IsTrue (is_some o) → IsPortThere i p
      by y all None is some = absurd (false≢true some)
      by y all (Some port) is some =
          record { instance = y; all = all; port = port; found = is; of = y.of.ports p port is }

  -- it is the port of the state
  pub port_state_is : (i p : ℕ) (y : IsPortThere i p) → port_state s i p ≡ y.port
  port_state_is i p y =
      ap (λ o. option_map_or (λ (q : PortState). q) (option_and_then (λ x. port_of_made x p) o) no_port) y.instance.at
      ∙ ap (λ o. option_map_or (λ (q : PortState). q) o no_port) y.found

  port_passes : (i p : ℕ) (y : IsPortThere i p) (test : PortState → Bool) → IsTrue (test y.port)
      → IsTrue (has_port_that m s i p test)
  port_passes i p y test passes =
      option_map_or_from
      (λ (x : MadeInstance). list_all (λ t. has_port m t p) x.kinds && option_map_or test (port_of_made x p) false)
      (slice_get s.made i) y.instance.made y.instance.at
      (and_from _ _ y.all (option_map_or_from test (port_of_made y.instance.made p) y.port y.found passes))

  pub linked_entailed : (i p j : ℕ) → IsPortThere i p → j < number_made s → TruthEntailed m s (linked s i p j)
  unfolding entails
  linked_entailed i p j y below =
      subst (λ (q : PortState). TruthEntailed m s (cond (has_number q.required j) (True (literal.Linked i p j ∷ []))
      (cond (has_number q.possible j) Open (False (literal.NotLinked i p j ∷ []))))) (sym (port_state_is i p y))
      (by (has_number y.port.required j) refl (has_number y.port.possible j) refl)
    where
      by : (b : Bool) → has_number y.port.required j ≡ b → (d : Bool) → has_number y.port.possible j ≡ d
          → TruthEntailed m s (cond b (True (literal.Linked i p j ∷ []))
          (cond d Open (False (literal.NotLinked i p j ∷ []))))
      by true required d possible =
          alone m s (literal.Linked i p j) (port_passes i p y (λ q. has_number q.required j) required)
      by false required true possible = refl
      by false required false possible =
          let made : nat_lt j (number_made s) ≡ true = grind (arith, nat_tests) in
          alone m s (literal.NotLinked i p j)
          (port_passes i p y (λ q. cond (nat_lt j (number_made s)) (not (has_number q.possible j)) (q.fresh_high == 0))
          (ap (λ b. cond b (not (has_number y.port.possible j)) (y.port.fresh_high == 0)) made ∙ ap not possible))

  -- at most so many later links, where the port says so
  pub fewer_entailed : (i p n : ℕ) (y : IsPortThere i p) → y.port.fresh_high ≤ n
      → IsTrue (entails m s (literal.FreshAtMost i p (number_made s) n))
  unfolding entails
  fewer_entailed i p n y few =
      let none = none_from (number_made s) y.port.possible y.of.to_made in
      port_passes i p y (λ q. nat_le (count_by (nat_le (number_made s)) q.possible + q.fresh_high) n)
      (let enough : count_by (nat_le (number_made s)) y.port.possible + y.port.fresh_high ≤ n = omega (arith, none, few) in
      grind (arith, nat_tests))

  -- and at least so many
  pub more_entailed : (i p n : ℕ) (y : IsPortThere i p) → n ≤ y.port.fresh_low
      → IsTrue (entails m s (literal.FreshAtLeast i p (number_made s) n))
  unfolding entails
  more_entailed i p n y many =
      port_passes i p y
      (λ q. nat_le n (count_by (nat_le (number_made s)) q.required + (cond (nat_le (number_made s) (number_made s)) q.fresh_low 0)))
      (let self : nat_le (number_made s) (number_made s) ≡ true = grind (arith, nat_tests) in
      ap (λ b. nat_le n (count_by (nat_le (number_made s)) y.port.required + cond b y.port.fresh_low 0)) self
      ∙ (let enough : n ≤ count_by (nat_le (number_made s)) y.port.required + y.port.fresh_low = omega (arith, many) in
      grind (arith, nat_tests)))

  pub closed_entailed : (i p : ℕ) → IsPortThere i p → TruthEntailed m s (is_closed s i p)
  closed_entailed i p y = by (port_state s i p).fresh_high refl (port_state s i p).fresh_high refl
    where
      by : (n : ℕ) → (port_state s i p).fresh_high ≡ n → (k : ℕ) → n ≡ k
          → TruthEntailed m s (cond (n == 0) (True (literal.FreshAtMost i p (number_made s) 0 ∷ [])) Open)
      by n is k same = by_test (n == 0) refl
        where
          by_test : (b : Bool) → (n == 0) ≡ b
              → TruthEntailed m s (cond b (True (literal.FreshAtMost i p (number_made s) 0 ∷ [])) Open)
          by_test true zero =
              let port = ap (λ (q : PortState). q.fresh_high) (port_state_is i p y) in
              let none : n ≡ 0 = grind (arith, nat_tests) in
              alone m s (literal.FreshAtMost i p (number_made s) 0)
              (fewer_entailed i p 0 y (omega (arith, port, is, none)))
          by_test false zero = refl

  -- ---- values

  -- an attribute that all possible types of a made instance have, and its domain
  pub record IsDomainThere (i a : ℕ) : Type 0 where
    pub instance : IsThere i
    pub all : IsTrue (list_all (λ t. has_attribute m t a) instance.made.kinds)
    pub domain : Values
    pub found : domain_of instance.made a ≡ Some domain

  pub domain_there_of : (i a : ℕ) (y : IsThere i) → IsTrue (list_all (λ t. has_attribute m t a) y.made.kinds)
      → IsDomainThere i a
  domain_there_of i a y all =
      by (domain_of y.made a) refl (y.of.has_domains a (any_of_all (λ t. has_attribute m t a) y.made.kinds y.of.some all))
    where
      by : (o : Option Values) → domain_of y.made a ≡ o → IsTrue (is_some o) → IsDomainThere i a
      by None is some = absurd (false≢true some)
      by (Some d) is some = record { instance = y; all = all; domain = d; found = is }

  pub domain_there : (i t a : ℕ) (q : AttrAt) → i < number_made s → IsTrue (is_surely_under m s t i)
      → attribute_of m t a ≡ Some q → IsDomainThere i a
  domain_there i t a q below surely declared =
      let y = there i below in
      domain_there_of i a y
      (list_all_by (λ k. is_a m k t) (λ k. has_attribute m k a) (λ k under. has_attribute_below m valid k t a q under declared)
      y.made.kinds (kinds_pass i y (λ k. is_a m k t) surely))

  domain_at_is : (i a : ℕ) (y : IsDomainThere i a) → domain_at s i a ≡ Some y.domain
  domain_at_is i a y = ap (λ o. option_and_then (λ x. domain_of x a) o) y.instance.at ∙ y.found

  low_is : (i a : ℕ) (y : IsDomainThere i a) → low_at s i a ≡ least y.domain
  low_is i a y = ap (λ o. option_map_or least o (pos 0)) (domain_at_is i a y)

  high_is : (i a : ℕ) (y : IsDomainThere i a) → high_at s i a ≡ greatest y.domain
  high_is i a y = ap (λ o. option_map_or greatest o (pos 0)) (domain_at_is i a y)

  domain_passes : (i a : ℕ) (y : IsDomainThere i a) (test : Values → Bool) → IsTrue (test y.domain)
      → IsTrue (has_domain_that m s i a test)
  domain_passes i a y test passes =
      option_map_or_from
      (λ (x : MadeInstance). list_all (λ t. has_attribute m t a) x.kinds && option_map_or test (domain_of x a) false)
      (slice_get s.made i) y.instance.made y.instance.at
      (and_from _ _ y.all (option_map_or_from test (domain_of y.instance.made a) y.domain y.found passes))

  pub at_least_entailed : (i a : ℕ) (n : ℤ) → IsDomainThere i a → n ≤ℤ low_at s i a
      → IsTrue (entails m s (literal.AtLeast i a n))
  unfolding entails
  at_least_entailed i a n y less =
      let low = low_is i a y in
      domain_passes i a y (λ d. int_le n (least d))
      (let within : n ≤ℤ least y.domain = subst (λ k. n ≤ℤ k) low less in grind (arith, ints))

  pub at_most_entailed : (i a : ℕ) (n : ℤ) → IsDomainThere i a → high_at s i a ≤ℤ n
      → IsTrue (entails m s (literal.AtMost i a n))
  unfolding entails
  at_most_entailed i a n y more =
      let high = high_is i a y in
      domain_passes i a y (λ d. int_le (greatest d) n)
      (let within : greatest y.domain ≤ℤ n = subst (λ k. k ≤ℤ n) high more in grind (arith, ints))

  pub other_entailed : (i a : ℕ) (n : ℤ) → IsDomainThere i a → allows_at s i a n ≡ false
      → IsTrue (entails m s (literal.ValueIsNot i a n))
  unfolding entails
  other_entailed i a n y out =
      domain_passes i a y (λ d. not (has_value d n))
      (ap not (sym (ap (λ o. option_map_or (λ d. has_value d n) o false) (domain_at_is i a y)) ∙ out))

  pub value_entailed : (i a : ℕ) → IsDomainThere i a → RangeEntailed m s (value_range s a i)
  value_entailed i a y = (
    alone m s (literal.AtLeast i a (low_at s i a)) (at_least_entailed i a (low_at s i a) y (omega (arith, ints))),
    alone m s (literal.AtMost i a (high_at s i a)) (at_most_entailed i a (high_at s i a) y (omega (arith, ints))),
  )

  pub word_entailed : (i a w : ℕ) → IsDomainThere i a → TruthEntailed m s (has_word s i a w)
  word_entailed i a w y =
      by (int_eq (low_at s i a) (pos w)) refl (int_eq (high_at s i a) (pos w)) refl (allows_at s i a (pos w)) refl
    where
      by : (b : Bool) → int_eq (low_at s i a) (pos w) ≡ b → (d : Bool) → int_eq (high_at s i a) (pos w) ≡ d
          → (e : Bool) → allows_at s i a (pos w) ≡ e
          → TruthEntailed m s (cond (b && d)
          (True (literal.AtLeast i a (pos w) ∷ literal.AtMost i a (pos w) ∷ []))
          (cond e Open (False (literal.ValueIsNot i a (pos w) ∷ []))))
      by true low true high e allows =
          let least = same_number (low_at s i a) (pos w) low in
          let greatest = same_number (high_at s i a) (pos w) high in
          and_from _ _ (at_least_entailed i a (pos w) y (omega (arith, ints, least)))
          (alone m s (literal.AtMost i a (pos w)) (at_most_entailed i a (pos w) y (omega (arith, ints, greatest))))
      by true low false high true allows = refl
      by true low false high false allows = alone m s (literal.ValueIsNot i a (pos w)) (other_entailed i a (pos w) y allows)
      by false low d high true allows = refl
      by false low d high false allows = alone m s (literal.ValueIsNot i a (pos w)) (other_entailed i a (pos w) y allows)
