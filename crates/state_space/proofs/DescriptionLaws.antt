-- What a state says of a made instance, it entails.
use Rattle.std.proofs.Common.{◌≡◌, ℕ, zero, suc, ◌+◌, ◌<◌, Bool, true, false, not, ◌&&◌, List, [], ◌∷◌, ◌++◌, length, map, refl, ap, sym, ◌∙◌, inl, inr, Some, None, Option, arith, lt-ltb, le-leb, le_refl, eqb-true}
use Rattle.std.specs.Prelude.{IsTrue, ◌==◌, slice_get, nat_lt, nat_le, int_le, if◌then◌else◌}
use Rattle.std.specs.Option.{option_map_or, option_and_then}
use Rattle.std.specs.List.{list_any, list_all, filter, flat_map, count_by, range_with_len}
use Rattle.std.proofs.lemmas.Bool.{and_parts, and_from, or_cases, eq-eqb, not_from_false, not-true, false_from_ne_true, false≢true}
use Rattle.std.proofs.lemmas.Bool.Decides.{nat_tests}
use Rattle.std.proofs.lemmas.Option.{none-some, slice_get_cases}
use Rattle.base_laws.specs.Places.{IsAt}
use Rattle.base_laws.proofs.Places.{filter_at}
use Rattle.base_laws.proofs.Ranges.{range_with_len_lt}
use Rattle.base_laws.proofs.Tests.{list_all_at, list_any_from, option_map_or_at, option_map_or_from}
use Rattle.prod_model.specs.declared.model.Model.{Model}
use Rattle.prod_model.specs.declared.model.TypeDecl.{TypeDecl}
use Rattle.prod_model.specs.Forest.{line_within, is_type, is_a, is_leaf, type_numbers}
use Rattle.prod_model.specs.Taxonomy.{attributes_at, ports_at}
use Rattle.config_value.specs.Literals.{has_attribute, has_port}
use Rattle.config_value.specs.declared.literal.Literal.{Literal}
use Rattle.config_value.specs.declared.literal.Literal.TheVariants as literal
use Rattle.state_space.specs.Made.{MadeInstance, domain_of, port_of_made}
use Rattle.state_space.specs.Values.{Values, has_value, least, greatest}
use Rattle.state_space.specs.Ports.{PortState, is_closed}
use Rattle.state_space.specs.Sets.{has_number}
use Rattle.state_space.specs.State.{State, IsState, IsPortOf, number_made, kinds_at, domain_at, port_at, leaves_that}
use Rattle.state_space.specs.Entails.{entails, has_domain_that, has_port_that, all_have_attribute, all_have_port}
use Rattle.state_space.specs.Descriptions.{kinds_description, numbers_between, gaps, values_description, attribute_description, links_description, port_description, count_description, first_kind, description}
use Rattle.state_space.specs.Described.{entails_all, DescriptionIsEntailed}
use Rattle.state_space.proofs.ValuesLaws.{le-refl}
use Rattle.state_space.proofs.PortLaws.{all_has, all_from_has, count_by-none}
use Rattle.state_space.proofs.DescriptionLists.{mapped_all, joined_all, flat_all}

-- ---- leaves

-- a leaf on the line of a type is that type
leaf_on_line : (m : Model) (t : ℕ) → IsTrue (is_leaf m t) → (n u : ℕ) → IsTrue (list_any (λ v. v == t) (line_within n m.types u)) → u ≡ t
unfolding is_leaf
leaf_on_line m t leaf zero u there = absurd (false≢true there)
leaf_on_line m t leaf (suc n) u there = by (slice_get m.types u) refl there (leaf_on_line m t leaf n)
  where
    above : (d : TypeDecl) → IsAt m.types u d → (o : Option ℕ) → d.parent ≡ o → IsTrue (list_any (λ v. v == t) (option_map_or (line_within n m.types) o []))
        → ((p : ℕ) → IsTrue (list_any (λ v. v == t) (line_within n m.types p)) → p ≡ t) → ⊥
    above d at None is up rest = false≢true up
    above d at (Some p) is up rest =
        let same = rest p up in
        let all = (and_parts (is_type m t) (list_all (λ d. not (option_map_or (λ p. p == t) d.parent false)) m.types) leaf).1 in
        let other : IsTrue (not (option_map_or (λ p. p == t) d.parent false)) =
        list_all_at (λ (d : TypeDecl). not (option_map_or (λ p. p == t) d.parent false)) m.types all u d at in
        let reads : not (option_map_or (λ p. p == t) d.parent false) ≡ not (p == t) = ap (λ o. not (option_map_or (λ p. p == t) o false)) is in
        grind (arith, nat_tests, same, other, reads)

    by : (o : Option TypeDecl) → slice_get m.types u ≡ o → IsTrue (list_any (λ v. v == t) (option_map_or (λ d. u ∷ option_map_or (line_within n m.types) d.parent []) o []))
        → ((p : ℕ) → IsTrue (list_any (λ v. v == t) (line_within n m.types p)) → p ≡ t) → u ≡ t
    by None at there rest = absurd (false≢true there)
    by (Some d) at there rest = elim (or_cases (u == t) (list_any (λ v. v == t) (option_map_or (line_within n m.types) d.parent [])) there) [
      | inl here ↦ eqb-true u t here
      | inr up ↦ absurd (above d at d.parent refl up rest)
    ]

-- a type under a leaf is the leaf
pub under_leaf : (m : Model) (t u : ℕ) → IsTrue (is_leaf m t) → IsTrue (is_a m u t) → u ≡ t
unfolding is_a
under_leaf m t u leaf under = leaf_on_line m t leaf (suc (length m.types)) u under

-- ---- what every possible type has

module _ (m : Model) (s : State) (i : ℕ) where
  -- what a domain passes, where every possible type has the attribute
  domain_passes : (a : ℕ) (d : Values) (test : Values → Bool) → IsTrue (all_have_attribute m s i a) → domain_at s i a ≡ Some d → IsTrue (test d) → IsTrue (has_domain_that m s i a test)
  domain_passes a d test all is passes =
      let made = option_map_or_at (λ x. list_all (λ t. has_attribute m t a) x.kinds) (slice_get s.made i) all in
      let there : domain_of made.0 a ≡ Some d = sym (ap (λ o. option_and_then (λ x. domain_of x a) o) made.1) ∙ is in
      option_map_or_from (λ x. list_all (λ t. has_attribute m t a) x.kinds && option_map_or test (domain_of x a) false) (slice_get s.made i) made.0 made.1
      (and_from _ _ made.2 (option_map_or_from test (domain_of made.0 a) d there passes))

  -- and what a port does
  port_passes : (p : ℕ) (q : PortState) (test : PortState → Bool) → IsTrue (all_have_port m s i p) → port_at s i p ≡ Some q → IsTrue (test q) → IsTrue (has_port_that m s i p test)
  port_passes p q test all is passes =
      let made = option_map_or_at (λ x. list_all (λ t. has_port m t p) x.kinds) (slice_get s.made i) all in
      let there : port_of_made made.0 p ≡ Some q = sym (ap (λ o. option_and_then (λ x. port_of_made x p) o) made.1) ∙ is in
      option_map_or_from (λ x. list_all (λ t. has_port m t p) x.kinds && option_map_or test (port_of_made x p) false) (slice_get s.made i) made.0 made.1
      (and_from _ _ made.2 (option_map_or_from test (port_of_made made.0 p) q there passes))

-- what a port is, of a made instance of a state
pub port_is : (m : Model) (s : State) (i p : ℕ) (q : PortState) → IsState m s → port_at s i p ≡ Some q → IsPortOf (number_made s) q
port_is m s i p q state is = by (slice_get s.made i) refl is
  where
    by : (o : Option MadeInstance) → slice_get s.made i ≡ o → option_and_then (λ x. port_of_made x p) o ≡ Some q → IsPortOf (number_made s) q
    by None at is = absurd (none-some q is)
    by (Some x) at is = (state.each i x at).ports p q is

-- ---- the parts

-- the made instance of a number
pub made_at : (s : State) (i : ℕ) → i < number_made s → (x : MadeInstance) × IsAt s.made i x
made_at s i made = elim (slice_get_cases s.made i).1 [
  | inl w ↦ (w.0, w.2)
  | inr w ↦ absurd (omega (arith, made, w.0))
]

module _ (m : Model) (s : State) (i : ℕ) where
  kinds_entailed : i < number_made s → entails_all m s (kinds_description m s i)
  unfolding entails
  kinds_entailed made =
      and_from _ _ (lt-ltb i (number_made s) made) (mapped_all (entails m s) (λ t. literal.NotKind i t) (leaves_that m (λ t. not (has_number (kinds_at s i) t))) none)
    where
      -- no possible type is under a leaf that is not possible
      none : (k t : ℕ) → IsAt (leaves_that m (λ t. not (has_number (kinds_at s i) t))) k t → IsTrue (entails m s (literal.NotKind i t))
      none k t at =
          let x = made_at s i made in
          let found = filter_at (λ t. not (has_number (kinds_at s i) t)) (filter (is_leaf m) (type_numbers m.types)) k t at in
          let leaf = (filter_at (is_leaf m) (type_numbers m.types) found.0 t found.1).2 in
          let out : has_number x.0.kinds t ≡ false = ap (λ o. has_number (option_map_or (λ x. x.kinds) o []) t) (sym x.1) ∙ not-true _ found.2 in
          option_map_or_from (λ x. list_all (λ u. not (is_a m u t)) x.kinds) (slice_get s.made i) x.0 x.1
          (all_from_has (λ u. not (is_a m u t)) x.0.kinds (λ u there. not_from_false _ (false_from_ne_true _ (λ under.
          false≢true (sym out ∙ ap (has_number x.0.kinds) (sym (under_leaf m t u leaf under)) ∙ there)))))

  values_entailed : (a : ℕ) (d : Values) → IsTrue (all_have_attribute m s i a) → domain_at s i a ≡ Some d → entails_all m s (values_description i a d)
  unfolding entails
  values_entailed a d all is =
      and_from _ _ (domain_passes m s i a d (λ e. int_le (least d) (least e)) all is (le-refl (least d)))
      (and_from _ _ (domain_passes m s i a d (λ e. int_le (greatest e) (greatest d)) all is (le-refl (greatest d)))
      (mapped_all (entails m s) (λ v. literal.ValueIsNot i a v) (gaps d) (λ k v at.
      domain_passes m s i a d (λ e. not (has_value e v)) all is (filter_at (λ v. not (has_value d v)) (numbers_between (least d) (greatest d)) k v at).2)))

  attribute_entailed : (a : ℕ) → entails_all m s (attribute_description m s i a)
  attribute_entailed a = by (all_have_attribute m s i a) refl (domain_at s i a) refl
    where
      by : (b : Bool) → all_have_attribute m s i a ≡ b → (o : Option Values) → domain_at s i a ≡ o
          → entails_all m s (if b then option_map_or (values_description i a) o [] else [])
      by false some o is = refl
      by true all None is = refl
      by true all (Some d) is = values_entailed a d all is

  module _ (state : IsState m s) (p : ℕ) (q : PortState) (all : IsTrue (all_have_port m s i p)) (is : port_at s i p ≡ Some q) where
    links_entailed : entails_all m s (links_description (number_made s) i p q)
    unfolding entails
    links_entailed =
        let n = number_made s in
        let lacks = λ (j : ℕ). not (has_number q.possible j) in
        let linked = map (λ j. literal.Linked i p j) q.required in
        let not_linked = map (λ j. literal.NotLinked i p j) (filter lacks (range_with_len 0 n)) in
        let later = literal.FreshAtLeast i p n q.fresh_low ∷ literal.FreshAtMost i p n q.fresh_high ∷ [] in
        joined_all (entails m s) (linked ++ not_linked) later
        (joined_all (entails m s) linked not_linked
        (mapped_all (entails m s) (λ j. literal.Linked i p j) q.required (λ k j at.
        port_passes m s i p q (λ r. has_number r.required j) all is (list_any_from (λ h. h == j) q.required k j at (eq-eqb j j refl))))
        (mapped_all (entails m s) (λ j. literal.NotLinked i p j) (filter lacks (range_with_len 0 n)) unlinked))
        (and_from _ _ some (and_from _ _ few refl))
      where
        unlinked : (k j : ℕ) → IsAt (filter (λ j. not (has_number q.possible j)) (range_with_len 0 (number_made s))) k j → IsTrue (entails m s (literal.NotLinked i p j))
        unlinked k j at =
            let found = filter_at (λ j. not (has_number q.possible j)) (range_with_len 0 (number_made s)) k j at in
            let below = range_with_len_lt 0 (number_made s) found.0 j found.1 in
            port_passes m s i p q (λ r. if nat_lt j (number_made s) then not (has_number r.possible j) else is_closed r) all is
            (ap (λ b. if b then not (has_number q.possible j) else is_closed q) (lt-ltb j (number_made s) (omega (arith, below))) ∙ found.2)

        some : IsTrue (entails m s (literal.FreshAtLeast i p (number_made s) q.fresh_low))
        some =
            port_passes m s i p q (λ r. nat_le q.fresh_low (count_by (nat_le (number_made s)) r.required + (if nat_le (number_made s) (number_made s) then r.fresh_low else 0))) all is
            (ap (λ b. nat_le q.fresh_low (count_by (nat_le (number_made s)) q.required + (if b then q.fresh_low else 0))) (le-leb (number_made s) (number_made s) (le_refl (number_made s)))
            ∙ le-leb q.fresh_low (count_by (nat_le (number_made s)) q.required + q.fresh_low) (omega arith))

        few : IsTrue (entails m s (literal.FreshAtMost i p (number_made s) q.fresh_high))
        few =
            let none : count_by (nat_le (number_made s)) q.possible ≡ 0 = count_by-none (nat_le (number_made s)) q.possible (λ k there.
            let below = all_has (λ j. nat_lt j (number_made s)) q.possible k (port_is m s i p q state is).to_made there in grind (arith, nat_tests, below)) in
            port_passes m s i p q (λ r. nat_le (count_by (nat_le (number_made s)) r.possible + r.fresh_high) q.fresh_high) all is
            (le-leb (count_by (nat_le (number_made s)) q.possible + q.fresh_high) q.fresh_high (omega (arith, none)))

    count_entailed : entails_all m s (count_description i p q)
    unfolding entails
    count_entailed =
        let low = length q.required + q.fresh_low in
        let high = length q.possible + q.fresh_high in
        and_from _ _ (port_passes m s i p q (λ r. nat_le low (length r.required + r.fresh_low)) all is (le-leb low low (le_refl low)))
        (and_from _ _ (port_passes m s i p q (λ r. nat_le (length r.possible + r.fresh_high) high) all is (le-leb high high (le_refl high))) refl)

  -- what is said of a port, where every possible type has it and it is there
  port_by : (says : PortState → List Literal) (p : ℕ)
      → ((q : PortState) → IsTrue (all_have_port m s i p) → port_at s i p ≡ Some q → entails_all m s (says q))
      → entails_all m s (if all_have_port m s i p then option_map_or says (port_at s i p) [] else [])
  port_by says p each = by (all_have_port m s i p) refl (port_at s i p) refl
    where
      by : (b : Bool) → all_have_port m s i p ≡ b → (o : Option PortState) → port_at s i p ≡ o → entails_all m s (if b then option_map_or says o [] else [])
      by false some o is = refl
      by true all None is = refl
      by true all (Some q) is = each q all is

pub description_is_entailed : DescriptionIsEntailed
unfolding description
description_is_entailed m s i state made =
    let attributes = flat_map (λ a. attribute_description m s i a.id) (attributes_at m (first_kind s i)) in
    let ports = flat_map (λ p. port_description m s i p.id) (ports_at m (first_kind s i)) in
    let kinds = kinds_entailed m s i made in
    let port = λ (p : ℕ). port_by m s i (links_description (number_made s) i p) p (links_entailed m s i state p) in
    record {
      kinds = kinds;
      attribute = attribute_entailed m s i;
      port = port;
      counts = λ p. port_by m s i (count_description i p) p (count_entailed m s i state p);
      all = joined_all (entails m s) (kinds_description m s i ++ attributes) ports
          (joined_all (entails m s) (kinds_description m s i) attributes kinds
          (flat_all (entails m s) (λ a. attribute_description m s i a.id) (attributes_at m (first_kind s i)) (λ a. attribute_entailed m s i a.id)))
          (flat_all (entails m s) (λ p. port_description m s i p.id) (ports_at m (first_kind s i)) (λ p. port p.id));
    }
