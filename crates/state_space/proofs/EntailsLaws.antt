-- What a state says of the configurations that it covers.
use Rattle.std.proofs.Common.{◌≡◌, ℕ, zero, suc, ◌+◌, ◌≤◌, ◌<◌, Bool, true, false, not, ◌&&◌, List, [], ◌∷◌, length, refl, ap, ap₂, sym, ◌∙◌, subst, Some, None, Option, ℤ, arith, ltb-true, lt-ltb, leb-true, le-leb}
use Rattle.std.specs.Prelude.{IsTrue, ◌==◌, slice_get, slice_index_or, nat_lt, nat_le, int_le, if◌then◌else◌}
use Rattle.std.specs.Option.{option_map_or}
use Rattle.std.specs.Ordering.{int_eq}
use Rattle.std.specs.List.{list_all, filter, count_by, position}
use Rattle.std.proofs.lemmas.Bool.{and_parts, and_from, not-true, not_from_false, eqb-true, false≢true, false_from_ne_true}
use Rattle.std.proofs.lemmas.Bool.Decides.{nat_tests}
use Rattle.std.proofs.lemmas.Option.{none-some, slice_get-get_or, slice_get_within}
use Rattle.std.specs.Cmp.{signed_Decides}
use Rattle.prod_model.specs.declared.model.Model.{Model}
use Rattle.prod_model.specs.Forest.{is_a}
use Rattle.prod_model.specs.Taxonomy.{ports_at, attributes_at}
use Rattle.config_value.specs.declared.configuration.Instance.{Instance}
use Rattle.config_value.specs.Value.{value_of, links_of, at_instance}
use Rattle.config_value.specs.Shaped.{ascends}
use Rattle.config_value.specs.Spelled.{is_spelled, is_spelled_links, is_spelled_value}
use Rattle.base_laws.specs.Places.{IsAt}
use Rattle.base_laws.proofs.Tests.{list_all_at, option_map_or_at, option_map_or_from}
use lib.Pointwise.{pointwise}
use Rattle.config_value.specs.declared.literal.Literal.TheVariants as literal
use Rattle.state_space.specs.Made.{MadeInstance, domain_of, port_of_made}
use Rattle.state_space.specs.Values.{Values, has_value, least, greatest, are_values}
use Rattle.state_space.specs.Ports.{PortState, parted, allows, is_port, is_closed}
use Rattle.state_space.specs.Sets.{has_number}
use Rattle.config_value.specs.Literals.{has_literal, has_attribute, has_port, has_value_that, has_links_that}
use Rattle.state_space.specs.State.{State, IsState, IsMadeOf, IsPortOf, number_made}
use Rattle.state_space.specs.Covers.{CoversInstance, Covers}
use Rattle.state_space.specs.Entails.{entails, at_made, all_kinds, has_domain_that, has_port_that, all_have_attribute, all_have_port}
use Rattle.state_space.specs.Laws.{EntailedHolds}
use Rattle.state_space.proofs.NarrowingLaws.{true_along}
use Rattle.state_space.proofs.ValuesLaws.{le-trans, le-greatest, least-le}
use Rattle.state_space.proofs.PortLaws.{all_has, has_number-filter, count_by-within, count_by-parted, count_by-le, count_by-all, count_by-member, ascends-filter}

-- ---- links of a configuration that can be spelled

-- one of several lists, or the empty one, ascends
list_ascends : (ports : List (List ℕ)) (k : ℕ) → IsTrue (list_all is_spelled_links ports) → IsTrue (ascends (slice_index_or ports k []))
list_ascends [] k h = refl
list_ascends (p ∷ ps) zero h = (and_parts _ _ (and_parts (is_spelled_links p) (list_all is_spelled_links ps) h).0).0
list_ascends (p ∷ ps) (suc k) h = list_ascends ps k (and_parts (is_spelled_links p) (list_all is_spelled_links ps) h).1

pub links_ascend : (m : Model) (y : Instance) (p : ℕ) → IsTrue (list_all is_spelled_links y.links) → IsTrue (ascends (links_of m y p))
links_ascend m y p h = by (position (λ q. q.id == p) (ports_at m y.kind))
  where
    by : (o : Option ℕ) → IsTrue (ascends (option_map_or (λ k. slice_index_or y.links k []) o []))
    by None = refl
    by (Some k) = list_ascends y.links k h

pub spelled_links_at : (m : Model) (c : List Instance) (i : ℕ) (y : Instance) → IsTrue (is_spelled m c) → IsAt c i y → IsTrue (list_all is_spelled_links y.links)
unfolding is_spelled
spelled_links_at m c i y h at =
    (and_parts (pointwise (is_spelled_value m) (attributes_at m y.kind) y.values) (list_all is_spelled_links y.links)
    (list_all_at (λ x. pointwise (is_spelled_value m) (attributes_at m x.kind) x.values && list_all is_spelled_links x.links) c (and_parts _ _ h).1 i y at)).1

-- ---- a made instance and the one that it covers

-- a test of the instance at a place, where there is one
pub at_instance_same : (c : List Instance) (i : ℕ) (y : Instance) (test : Instance → Bool) → IsAt c i y → at_instance c test false i ≡ test y
at_instance_same c i y test at = ap (λ o. option_map_or test o false) at

pub record IsCoveredAt (m : Model) (s : State) (c : List Instance) (i : ℕ) (x : MadeInstance) (y : Instance) : Type 0 where
  pub made : IsAt s.made i x
  pub there : IsAt c i y
  pub is_made : IsMadeOf m (number_made s) x
  pub covered : CoversInstance m (number_made s) x y
  pub ascend : (p : ℕ) → IsTrue (ascends (links_of m y p))

-- the instance that a made one covers
pub covered_at : (m : Model) (s : State) (c : List Instance) → IsState m s → Covers m s c → (i : ℕ) (x : MadeInstance) → IsAt s.made i x
    → (y : Instance) × IsCoveredAt m s c i x y
covered_at m s c state h i x at = by (slice_get c i) refl
  where
    by : (o : Option Instance) → slice_get c i ≡ o → (y : Instance) × IsCoveredAt m s c i x y
    by None none = absurd (none-some _ (sym none ∙ slice_get-get_or c i (record { kind = 0; values = []; links = [] }) within))
      where
        within : i < length c
        within = let made = slice_get_within s.made i x at in omega (arith, made, h.enough)
    by (Some y) there = (
      y,
      record {
        made = at;
        there = there;
        is_made = state.each i x at;
        covered = h.each i x y at there;
        ascend = λ p. links_ascend m y p (spelled_links_at m c i y h.spelled there);
      },
    )

-- what passes of a made instance, with the instance that it covers
pub made_passes : (m : Model) (s : State) (c : List Instance) (i : ℕ) (test : MadeInstance → Bool) → IsState m s → Covers m s c → IsTrue (at_made s i test)
    → (x : MadeInstance) × (y : Instance) × IsCoveredAt m s c i x y × IsTrue (test x)
made_passes m s c i test state h passes =
    let x = option_map_or_at test (slice_get s.made i) passes in
    let y = covered_at m s c state h i x.0 x.1 in
    (x.0, y.0, y.1, x.2)

-- ---- entailed literals

module _ (m : Model) (s : State) (c : List Instance) (state : IsState m s) (h : Covers m s c) where
  -- what every possible type passes the type of the instance passes
  kind_holds : (i : ℕ) (test : ℕ → Bool) → IsTrue (all_kinds s i test) → IsTrue (at_instance c (λ y. test y.kind) false i)
  kind_holds i test all =
      let found = made_passes m s c i (λ x. list_all test x.kinds) state h all in
      option_map_or_from (λ y. test y.kind) (slice_get c i) found.1 found.2.there (all_has test found.0.kinds found.1.kind found.3 found.2.covered.kind)

  -- what a domain says of each of its values holds of the value
  value_holds : (i a : ℕ) (test : Values → Bool) (want : ℤ → Bool)
      → ((d : Values) (v : ℤ) → IsTrue (are_values d) → IsTrue (test d) → IsTrue (has_value d v) → IsTrue (want v))
      → IsTrue (has_domain_that m s i a test) → IsTrue (has_value_that m c i a want)
  value_holds i a test want says passes =
      let found = made_passes m s c i (λ x. list_all (λ t. has_attribute m t a) x.kinds && option_map_or test (domain_of x a) false) state h passes in
      let x = found.0 in let y = found.1 in let at = found.2 in
      let both = and_parts (list_all (λ t. has_attribute m t a) x.kinds) (option_map_or test (domain_of x a) false) found.3 in
      let has : IsTrue (has_attribute m y.kind a) = all_has (λ t. has_attribute m t a) x.kinds y.kind both.0 at.covered.kind in
      let d = option_map_or_at test (domain_of x a) both.1 in
      let lets_it : IsTrue (has_value d.0 (value_of m y a)) = true_along _ _ (ap (λ o. option_map_or (λ d. has_value d (value_of m y a)) o false) d.1) (at.covered.values a has) in
      option_map_or_from (λ x. has_attribute m x.kind a && want (value_of m x a)) (slice_get c i) y at.there
      (and_from _ _ has (says d.0 (value_of m y a) (at.is_made.domains a d.0 d.1).formed d.2 lets_it))

  -- and what a port says of the links that it allows holds of the links
  links_hold : (i p : ℕ) (test : PortState → Bool) (want : List ℕ → Bool)
      → ((q : PortState) (links : List ℕ) → IsPortOf (number_made s) q → IsTrue (ascends links) → IsTrue (test q) → IsTrue (allows q (parted (number_made s) links)) → IsTrue (want links))
      → IsTrue (has_port_that m s i p test) → IsTrue (has_links_that m c i p want)
  links_hold i p test want says passes =
      let found = made_passes m s c i (λ x. list_all (λ t. has_port m t p) x.kinds && option_map_or test (port_of_made x p) false) state h passes in
      let x = found.0 in let y = found.1 in let at = found.2 in
      let both = and_parts (list_all (λ t. has_port m t p) x.kinds) (option_map_or test (port_of_made x p) false) found.3 in
      let has : IsTrue (has_port m y.kind p) = all_has (λ t. has_port m t p) x.kinds y.kind both.0 at.covered.kind in
      let q = option_map_or_at test (port_of_made x p) both.1 in
      let allowed : IsTrue (allows q.0 (parted (number_made s) (links_of m y p))) =
      true_along _ _ (ap (λ o. option_map_or (λ q. allows q (parted (number_made s) (links_of m y p))) o false) q.1) (at.covered.links p has) in
      option_map_or_from (λ x. has_port m x.kind p && want (links_of m x p)) (slice_get c i) y at.there
      (and_from _ _ has (says q.0 (links_of m y p) (at.is_made.ports p q.0 q.1) (at.ascend p) q.2 allowed))

-- ---- what a port says of its links

pub record IsAllowed (made : ℕ) (q : PortState) (links : List ℕ) : Type 0 where
  pub required : IsTrue (list_all (has_number (filter (λ j. nat_lt j made) links)) q.required)
  pub possible : IsTrue (list_all (has_number q.possible) (filter (λ j. nat_lt j made) links))
  pub least : q.fresh_low ≤ count_by (nat_le made) links
  pub most : count_by (nat_le made) links ≤ q.fresh_high

pub allowed_parts : (made : ℕ) (q : PortState) (links : List ℕ) → IsTrue (allows q (parted made links)) → IsAllowed made q links
allowed_parts made q links h =
    let both = and_parts _ _ h in
    let front = and_parts _ _ both.0 in
    let bounds = and_parts (nat_le q.fresh_low (count_by (nat_le made) links)) (nat_le (count_by (nat_le made) links) q.fresh_high) both.1 in
    record {
      required = front.0;
      possible = front.1;
      least = leb-true q.fresh_low _ bounds.0;
      most = leb-true _ q.fresh_high bounds.1;
    }

pub record IsSetPort (q : PortState) : Type 0 where
  pub required_ascends : IsTrue (ascends q.required)
  pub possible_ascends : IsTrue (ascends q.possible)
  pub within : IsTrue (list_all (has_number q.possible) q.required)
  pub bounds : q.fresh_low ≤ q.fresh_high

pub port_parts : (q : PortState) → IsTrue (is_port q) → IsSetPort q
port_parts q h =
    let last = and_parts (ascends q.required && ascends q.possible && list_all (has_number q.possible) q.required) (nat_le q.fresh_low q.fresh_high) h in
    let both = and_parts (ascends q.required && ascends q.possible) (list_all (has_number q.possible) q.required) last.0 in
    let front = and_parts (ascends q.required) (ascends q.possible) both.0 in
    record {
      required_ascends = front.0;
      possible_ascends = front.1;
      within = both.1;
      bounds = leb-true q.fresh_low q.fresh_high last.1;
    }

module _ (made : ℕ) (q : PortState) (links : List ℕ) (port : IsPortOf made q) (up : IsTrue (ascends links)) (allowed : IsTrue (allows q (parted made links))) where
  to_made : List ℕ
  to_made = filter (λ j. nat_lt j made) links

  -- of the links no more pass a test than possible ones and later ones
  at_most_possible : (test : ℕ → Bool) → count_by test links ≤ count_by test q.possible + q.fresh_high
  unfolding to_made
  at_most_possible test =
      let parts = allowed_parts made q links allowed in
      let few = count_by-within test to_made q.possible (ascends-filter (λ j. nat_lt j made) links up) (port_parts q port.formed).possible_ascends parts.possible in
      let later = count_by-le (λ k. test k && not (nat_lt k made)) (nat_le made)
      (λ k both. by k (and_parts (test k) (not (nat_lt k made)) both).1) links in
      omega (arith, count_by-parted test (λ j. nat_lt j made) links, few, later, parts.most)
    where
      by : (k : ℕ) → IsTrue (not (nat_lt k made)) → IsTrue (nat_le made k)
      by k h = grind (arith, nat_tests, h)

  -- and no fewer than required ones
  at_least_required : (test : ℕ → Bool) → count_by test q.required + count_by (λ k. test k && not (nat_lt k made)) links ≤ count_by test links
  unfolding to_made
  at_least_required test =
      let parts = allowed_parts made q links allowed in
      let some = count_by-within test q.required to_made (port_parts q port.formed).required_ascends (ascends-filter (λ j. nat_lt j made) links up) parts.required in
      omega (arith, count_by-parted test (λ j. nat_lt j made) links, some)

  -- where a test passes all later ones, those count beside
  all_later : (test : ℕ → Bool) → ((k : ℕ) → IsTrue (nat_le made k) → IsTrue (test k)) → q.fresh_low ≤ count_by (λ k. test k && not (nat_lt k made)) links
  all_later test all =
      let parts = allowed_parts made q links allowed in
      let more = count_by-le (nat_le made) (λ k. test k && not (nat_lt k made)) (λ k later. and_from _ _ (all k later) (by k later)) links in
      omega (arith, parts.least, more)
    where
      by : (k : ℕ) → IsTrue (nat_le made k) → IsTrue (not (nat_lt k made))
      by k h = grind (arith, nat_tests, h)

  -- what is required is linked
  required_linked : (j : ℕ) → IsTrue (has_number q.required j) → IsTrue (has_number links j)
  required_linked j there =
      let linked : IsTrue (has_number (filter (λ j. nat_lt j made) links) j) =
      all_has (has_number (filter (λ j. nat_lt j made) links)) q.required j (allowed_parts made q links allowed).required there in
      (and_parts _ _ (sym (has_number-filter (λ j. nat_lt j made) links j) ∙ linked)).0

  -- a made instance that is linked is possible
  linked_possible : (j : ℕ) → IsTrue (nat_lt j made) → IsTrue (has_number links j) → IsTrue (has_number q.possible j)
  linked_possible j is_made linked =
      all_has (has_number q.possible) (filter (λ j. nat_lt j made) links) j (allowed_parts made q links allowed).possible
      (has_number-filter (λ j. nat_lt j made) links j ∙ and_from _ _ linked is_made)

-- ---- the law of entailed literals

-- a closed port links no later instance
closed_links : (made : ℕ) (q : PortState) (links : List ℕ) → IsTrue (is_closed q) → count_by (nat_le made) links ≤ q.fresh_high
    → (j : ℕ) → IsTrue (nat_le made j) → IsTrue (has_number links j) → ⊥
closed_links made q links closed most j later linked =
    let none : q.fresh_high ≡ 0 = eqb-true q.fresh_high 0 closed in
    let one = count_by-member (nat_le made) links j linked later in
    omega (arith, none, one, most)

not_linked : (made : ℕ) (q : PortState) (links : List ℕ) (j : ℕ) → IsPortOf made q → IsTrue (ascends links) → IsTrue (allows q (parted made links))
    → IsTrue (if nat_lt j made then not (has_number q.possible j) else is_closed q) → IsTrue (not (has_number links j))
not_linked made q links j port up allowed test = not_from_false _ (false_from_ne_true _ (λ linked. by (nat_lt j made) refl test linked))
  where
    by : (b : Bool) → nat_lt j made ≡ b → IsTrue (if b then not (has_number q.possible j) else is_closed q) → IsTrue (has_number links j) → ⊥
    by true is_made impossible linked = false≢true (sym (not-true _ impossible) ∙ linked_possible made q links port up allowed j is_made linked)
    by false later closed linked = closed_links made q links closed (allowed_parts made q links allowed).most j (past later) linked
      where
        past : nat_lt j made ≡ false → IsTrue (nat_le made j)
        past later = grind (arith, nat_tests, later)

pub entailed_holds : EntailedHolds
unfolding entails has_literal
entailed_holds m s (literal.Made i) c state passes h =
    let made = ltb-true i (number_made s) passes in lt-ltb i (length c) (omega (arith, made, h.enough))
entailed_holds m s (literal.Kind i t) c state passes h = kind_holds m s c state h i (λ u. is_a m u t) passes
entailed_holds m s (literal.NotKind i t) c state passes h = kind_holds m s c state h i (λ u. not (is_a m u t)) passes
entailed_holds m s (literal.AtMost i a n) c state passes h =
    value_holds m s c state h i a (λ d. int_le (greatest d) n) (λ v. int_le v n) (λ d v formed test is. le-trans v (greatest d) n (le-greatest d v formed is) test) passes
entailed_holds m s (literal.AtLeast i a n) c state passes h =
    value_holds m s c state h i a (λ d. int_le n (least d)) (λ v. int_le n v) (λ d v formed test is. le-trans n (least d) v test (least-le d v formed is)) passes
entailed_holds m s (literal.ValueIsNot i a n) c state passes h =
    value_holds m s c state h i a (λ d. not (has_value d n)) (λ v. not (int_eq v n)) (λ d v formed test is.
    not_from_false _ (false_from_ne_true _ (λ same. false≢true (sym (not-true _ test) ∙ subst (λ u. IsTrue (has_value d u)) ((signed_Decides v n).0 same) is)))) passes
entailed_holds m s (literal.Linked i p j) c state passes h =
    links_hold m s c state h i p (λ q. has_number q.required j) (λ links. has_number links j) (λ q links port up test allowed.
    required_linked (number_made s) q links port up allowed j test) passes
entailed_holds m s (literal.NotLinked i p j) c state passes h =
    links_hold m s c state h i p (λ q. if nat_lt j (number_made s) then not (has_number q.possible j) else is_closed q) (λ links. not (has_number links j))
    (λ q links port up test allowed. not_linked (number_made s) q links j port up allowed test) passes
entailed_holds m s (literal.LinksAtMost i p n) c state passes h =
    links_hold m s c state h i p (λ q. nat_le (length q.possible + q.fresh_high) n) (λ links. nat_le (length links) n) (λ q links port up test allowed.
    let most = at_most_possible (number_made s) q links port up allowed (λ k. true) in
    let bound = leb-true (length q.possible + q.fresh_high) n test in
    le-leb (length links) n (omega (arith, most, bound, count_by-all links, count_by-all q.possible))) passes
entailed_holds m s (literal.LinksAtLeast i p n) c state passes h =
    links_hold m s c state h i p (λ q. nat_le n (length q.required + q.fresh_low)) (λ links. nat_le n (length links)) (λ q links port up test allowed.
    let some = at_least_required (number_made s) q links port up allowed (λ k. true) in
    let later = all_later (number_made s) q links port up allowed (λ k. true) (λ k h. refl) in
    let bound = leb-true n (length q.required + q.fresh_low) test in
    le-leb n (length links) (omega (arith, some, later, bound, count_by-all links, count_by-all q.required))) passes
entailed_holds m s (literal.FreshAtMost i p from n) c state passes h =
    links_hold m s c state h i p (λ q. nat_le (count_by (nat_le from) q.possible + q.fresh_high) n) (λ links. nat_le (count_by (nat_le from) links) n)
    (λ q links port up test allowed.
    let most = at_most_possible (number_made s) q links port up allowed (nat_le from) in
    let bound = leb-true (count_by (nat_le from) q.possible + q.fresh_high) n test in
    le-leb (count_by (nat_le from) links) n (omega (arith, most, bound))) passes
entailed_holds m s (literal.FreshAtLeast i p from n) c state passes h =
    links_hold m s c state h i p (λ q. nat_le n (count_by (nat_le from) q.required + (if nat_le from (number_made s) then q.fresh_low else 0)))
    (λ links. nat_le n (count_by (nat_le from) links)) (λ q links port up test allowed. by q links port up allowed (nat_le from (number_made s)) refl test) passes
  where
    by : (q : PortState) (links : List ℕ) → IsPortOf (number_made s) q → IsTrue (ascends links) → IsTrue (allows q (parted (number_made s) links))
        → (b : Bool) → nat_le from (number_made s) ≡ b → IsTrue (nat_le n (count_by (nat_le from) q.required + (if b then q.fresh_low else 0)))
        → IsTrue (nat_le n (count_by (nat_le from) links))
    by q links port up allowed true early test =
        let some = at_least_required (number_made s) q links port up allowed (nat_le from) in
        let later = all_later (number_made s) q links port up allowed (nat_le from) (λ k. after k) in
        let bound = leb-true n (count_by (nat_le from) q.required + q.fresh_low) test in
        le-leb n (count_by (nat_le from) links) (omega (arith, some, later, bound))
      where
        after : (k : ℕ) → IsTrue (nat_le (number_made s) k) → IsTrue (nat_le from k)
        after k h = let a = leb-true from (number_made s) early in let b = leb-true (number_made s) k h in le-leb from k (omega (arith, a, b))
    by q links port up allowed false late test =
        let some = at_least_required (number_made s) q links port up allowed (nat_le from) in
        let bound = leb-true n (count_by (nat_le from) q.required + 0) test in
        le-leb n (count_by (nat_le from) links) (omega (arith, some, bound))

-- ---- the law of opposites

module _ (m : Model) (s : State) (c : List Instance) (state : IsState m s) (h : Covers m s c) where
  -- where every possible type has the attribute, a test of the value and its opposite are answered the other way round
  pub value_opposite : (i a : ℕ) (test other : ℤ → Bool) → ((v : ℤ) → other v ≡ not (test v)) → IsTrue (all_have_attribute m s i a)
      → has_value_that m c i a other ≡ not (has_value_that m c i a test)
  value_opposite i a test other opposed all =
      let found = made_passes m s c i (λ x. list_all (λ t. has_attribute m t a) x.kinds) state h all in
      let y = found.1 in
      let has : has_attribute m y.kind a ≡ true = all_has (λ t. has_attribute m t a) found.0.kinds y.kind found.3 found.2.covered.kind in
      at_instance_same c i y (λ x. has_attribute m x.kind a && other (value_of m x a)) found.2.there
      ∙ (ap₂ (λ b o. b && o) has (opposed (value_of m y a))
      ∙ sym (ap not (at_instance_same c i y (λ x. has_attribute m x.kind a && test (value_of m x a)) found.2.there ∙ ap (λ b. b && test (value_of m y a)) has)))

  pub links_opposite : (i p : ℕ) (test other : List ℕ → Bool) → ((links : List ℕ) → other links ≡ not (test links)) → IsTrue (all_have_port m s i p)
      → has_links_that m c i p other ≡ not (has_links_that m c i p test)
  links_opposite i p test other opposed all =
      let found = made_passes m s c i (λ x. list_all (λ t. has_port m t p) x.kinds) state h all in
      let y = found.1 in
      let has : has_port m y.kind p ≡ true = all_has (λ t. has_port m t p) found.0.kinds y.kind found.3 found.2.covered.kind in
      at_instance_same c i y (λ x. has_port m x.kind p && other (links_of m x p)) found.2.there
      ∙ (ap₂ (λ b o. b && o) has (opposed (links_of m y p))
      ∙ sym (ap not (at_instance_same c i y (λ x. has_port m x.kind p && test (links_of m x p)) found.2.there ∙ ap (λ b. b && test (links_of m y p)) has)))
