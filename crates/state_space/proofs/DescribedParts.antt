-- What has the description of types, of an attribute or of a port has what the state leaves open.
use Rattle.std.proofs.Common.{◌≡◌, ℕ, ◌+◌, ◌≤◌, ◌<◌, Bool, true, false, not, ◌&&◌, List, [], ◌∷◌, ◌++◌, length, map, refl, ap, ap₂, sym, ◌∙◌, subst, inl, inr, Some, None, Option, ℤ, pos, nat_abs, ◌-ℤ◌, arith, leb-true, ltb-true, zero-le}
use Rattle.std.specs.Prelude.{IsTrue, ◌==◌, ◌+ℤ◌, slice_get, nat_lt, nat_le, int_le, if◌then◌else◌}
use Rattle.std.specs.Ordering.{int_eq}
use Rattle.std.specs.Option.{option_map_or, option_and_then, is_some}
use Rattle.std.specs.List.{list_any, list_all, filter, count_by, range_with_len}
use Rattle.std.proofs.lemmas.Int.{ints}
use Rattle.std.proofs.lemmas.Bool.{and_parts, and_from, or_left, eq-eqb, not_from_false, not-true, false≢true}
use Rattle.std.proofs.lemmas.Option.{slice_get_cases}
use Rattle.std.proofs.lemmas.List.Folds.{list_all-map}
use Rattle.std.specs.Cmp.{signed_Decides}
use Rattle.base_laws.specs.Places.{IsAt}
use Rattle.base_laws.proofs.Places.{at_map}
use Rattle.base_laws.proofs.Ranges.{slice_get_range_with_len}
use Rattle.base_laws.proofs.Tests.{list_all_by, option_map_or_at, option_map_or_from}
use Rattle.prod_model.specs.declared.model.Model.{Model}
use Rattle.prod_model.specs.Forest.{line_within, is_a}
use Rattle.config_value.specs.declared.configuration.Instance.{Instance}
use Rattle.config_value.specs.declared.literal.Literal.{Literal}
use Rattle.config_value.specs.declared.literal.Literal.TheVariants as literal
use Rattle.config_value.specs.Value.{value_of, links_of}
use Rattle.config_value.specs.Literals.{has_literal, has_attribute, has_port, has_value_that, has_links_that}
use Rattle.config_value.proofs.Places.{is_between_from}
use Rattle.state_space.specs.Made.{MadeInstance, domain_of}
use Rattle.state_space.specs.Values.{Values, has_value, least, greatest, are_values, is_empty}
use Rattle.state_space.specs.Ports.{PortState, parted, allows}
use Rattle.state_space.specs.Sets.{has_number}
use Rattle.state_space.specs.State.{State, IsState, IsPortOf, number_made, kinds_at, domain_at, port_at, leaves_that}
use Rattle.state_space.specs.Entails.{all_have_attribute, all_have_port}
use Rattle.state_space.specs.Descriptions.{numbers_between, gaps, values_description, links_description, count_description}
use Rattle.state_space.specs.Described.{HasAll, KindsAreDescribed, AttributeIsDescribed, PortIsDescribed, CountsAreDescribed}
use Rattle.state_space.proofs.ValuesLaws.{greatest-in}
use Rattle.state_space.proofs.PortLaws.{all_has, all_from_has, has_number-filter}
use Rattle.state_space.proofs.EntailsLaws.{at_instance_same, port_parts}
use Rattle.state_space.proofs.WholeLaws.{leaf_that, in_range}
use Rattle.state_space.proofs.DescriptionLists.{filtered_each, joined_parts}
use Rattle.state_space.proofs.DescriptionLaws.{port_is}

-- ---- types

-- a type is under itself
type_under_itself : (m : Model) (t : ℕ) → t < length m.types → IsTrue (is_a m t t)
unfolding is_a
type_under_itself m t type = elim (slice_get_cases m.types t).1 [
  | inl w ↦
      ap (λ o. list_any (λ v. v == t) (option_map_or (λ d. t ∷ option_map_or (line_within (length m.types) m.types) d.parent []) o [])) w.2
      ∙ or_left _ _ (eq-eqb t t refl)
  | inr w ↦ absurd (omega (arith, type, w.0))
]

pub kinds_are_described : KindsAreDescribed
unfolding has_literal
kinds_are_described m s i c x all at leaf type = by (has_number (kinds_at s i) x.kind) refl
  where
    by : (b : Bool) → has_number (kinds_at s i) x.kind ≡ b → IsTrue (has_number (kinds_at s i) x.kind)
    by true is = is
    by false is =
        let lacks = λ (t : ℕ). not (has_number (kinds_at s i) t) in
        let holds = λ (t : ℕ). has_literal m c (literal.NotKind i t) in
        let each = (and_parts (has_literal m c (literal.Made i)) (list_all (has_literal m c) (map (λ t. literal.NotKind i t) (leaves_that m lacks))) all).1 in
        let other = all_has holds (leaves_that m lacks) x.kind (sym (list_all-map (has_literal m c) (λ t. literal.NotKind i t) (leaves_that m lacks)) ∙ each)
        (leaf_that m lacks x.kind leaf (not_from_false _ is)) in
        let apart : IsTrue (not (is_a m x.kind x.kind)) = sym (at_instance_same c i x (λ y. not (is_a m y.kind x.kind)) at) ∙ other in
        absurd (false≢true (sym (not-true _ apart) ∙ type_under_itself m x.kind type))

-- ---- values

-- a value between the ends that is no gap is one of the values
pub between_in : (d : Values) (v : ℤ) → IsTrue (are_values d) → IsTrue (int_le (least d) v) → IsTrue (int_le v (greatest d))
    → IsTrue (list_all (λ u. not (int_eq v u)) (gaps d)) → IsTrue (has_value d v)
between_in d v formed low high all = by (has_value d v) refl
  where
    by : (b : Bool) → has_value d v ≡ b → IsTrue (has_value d v)
    by true is = is
    by false is =
        let k = nat_abs (v -ℤ least d) in
        let below : k < nat_abs (greatest d -ℤ least d) = inside (least d) (greatest d) v low high last in
        let same : least d +ℤ pos (0 + k) ≡ v = reached (least d) v low in
        let at : IsAt (numbers_between (least d) (greatest d)) k (least d +ℤ pos (0 + k)) =
        at_map (λ j. least d +ℤ pos j) (range_with_len 0 (nat_abs (greatest d -ℤ least d))) k (0 + k) (slice_get_range_with_len 0 (nat_abs (greatest d -ℤ least d)) k below) in
        let apart = filtered_each (λ u. not (int_eq v u)) (λ u. not (has_value d u)) (numbers_between (least d) (greatest d)) all k v (at ∙ ap Some same) (not_from_false _ is) in
        absurd (false≢true (sym (not-true _ apart) ∙ (signed_Decides v v).1 refl))
      where
        last : v ≡ greatest d → ⊥
        last same = false≢true (sym is ∙ ap (has_value d) same ∙ greatest-in d formed)

        inside : (a b u : ℤ) → IsTrue (int_le a u) → IsTrue (int_le u b) → (u ≡ b → ⊥) → nat_abs (u -ℤ a) < nat_abs (b -ℤ a)
        inside a b u first second other = grind (arith, ints, first, second, other)

        reached : (a u : ℤ) → IsTrue (int_le a u) → a +ℤ pos (0 + nat_abs (u -ℤ a)) ≡ u
        reached a u first = grind (arith, ints, first)

-- where there is a type, and all pass, one passes
pub one_of_all : (test : ℕ → Bool) (kinds : List ℕ) → IsTrue (not (is_empty kinds)) → IsTrue (list_all test kinds) → IsTrue (list_any test kinds)
one_of_all test [] some all = absurd (false≢true some)
one_of_all test (t ∷ ts) some all = or_left _ _ (and_parts (test t) (list_all test ts) all).0

module _ (m : Model) (s : State) (i : ℕ) where
  -- the domain of an attribute that every possible type has
  pub domain_there : (a : ℕ) → IsState m s → IsTrue (all_have_attribute m s i a) → (d : Values) × (domain_at s i a ≡ Some d) × IsTrue (are_values d)
  domain_there a state all =
      let made = option_map_or_at (λ x. list_all (λ t. has_attribute m t a) x.kinds) (slice_get s.made i) all in
      let is = state.each i made.0 made.1 in
      by made.0 (ap (λ o. option_and_then (λ x. domain_of x a) o) made.1) (domain_of made.0 a) refl (is.has_domains a (one_of_all (λ t. has_attribute m t a) made.0.kinds is.some made.2))
      (λ d there. (is.domains a d there).formed)
    where
      by : (x : MadeInstance) → domain_at s i a ≡ domain_of x a → (o : Option Values) → domain_of x a ≡ o → IsTrue (is_some o)
          → ((d : Values) → domain_of x a ≡ Some d → IsTrue (are_values d)) → (d : Values) × (domain_at s i a ≡ Some d) × IsTrue (are_values d)
      by x reads None is some formed = absurd (false≢true some)
      by x reads (Some d) is some formed = (d, reads ∙ is, formed d is)

module _ (m : Model) (c : List Instance) (i : ℕ) (x : Instance) (at : IsAt c i x) where
  -- what a literal says of the value of an instance
  value_said : (a : ℕ) (test : ℤ → Bool) → IsTrue (has_value_that m c i a test) → IsTrue (test (value_of m x a))
  value_said a test said =
      (and_parts (has_attribute m x.kind a) (test (value_of m x a)) (sym (at_instance_same c i x (λ y. has_attribute m y.kind a && test (value_of m y a)) at) ∙ said)).1

  -- and of its links
  links_said : (p : ℕ) (test : List ℕ → Bool) → IsTrue (has_links_that m c i p test) → IsTrue (test (links_of m x p))
  links_said p test said =
      (and_parts (has_port m x.kind p) (test (links_of m x p)) (sym (at_instance_same c i x (λ y. has_port m y.kind p && test (links_of m y p)) at) ∙ said)).1

pub attribute_is_described : AttributeIsDescribed
unfolding has_literal
attribute_is_described m s i a c x state all has at here =
    let domain = domain_there m s i a state all in
    let d = domain.0 in
    let v = value_of m x a in
    let holds = has_literal m c in
    let said : HasAll m c (values_description i a d) =
    subst (HasAll m c) (ap₂ (λ b o. if b then option_map_or (values_description i a) o [] else []) all domain.1) has in
    let no_gaps = map (λ u. literal.ValueIsNot i a u) (gaps d) in
    let first = and_parts (holds (literal.AtLeast i a (least d))) (list_all holds (literal.AtMost i a (greatest d) ∷ no_gaps)) said in
    let second = and_parts (holds (literal.AtMost i a (greatest d))) (list_all holds no_gaps) first.1 in
    let apart = list_all_by (λ u. holds (literal.ValueIsNot i a u)) (λ u. not (int_eq v u)) (λ u. value_said m c i x at a (λ w. not (int_eq w u))) (gaps d)
    (sym (list_all-map holds (λ u. literal.ValueIsNot i a u) (gaps d)) ∙ second.1) in
    option_map_or_from (λ e. has_value e v) (domain_at s i a) d domain.1
    (between_in d v domain.2 (value_said m c i x at a (λ w. int_le (least d) w) first.0) (value_said m c i x at a (λ w. int_le w (greatest d)) second.0) apart)

-- ---- links

module _ (m : Model) (s : State) (i p : ℕ) (q : PortState) (c : List Instance) (x : Instance) (all : IsTrue (all_have_port m s i p)) (is : port_at s i p ≡ Some q) (at : IsAt c i x) where
  -- what is said of a port that is there
  port_said : (says : PortState → List Literal) → HasAll m c (if all_have_port m s i p then option_map_or says (port_at s i p) [] else []) → HasAll m c (says q)
  port_said says has = subst (HasAll m c) (ap₂ (λ b o. if b then option_map_or says o [] else []) all is) has

  -- links of which the literals of a port hold are allowed
  links_allowed : IsPortOf (number_made s) q → HasAll m c (links_description (number_made s) i p q) → IsTrue (allows q (parted (number_made s) (links_of m x p)))
  unfolding has_literal
  links_allowed port said =
      let n = number_made s in
      let links = links_of m x p in
      let holds = has_literal m c in
      let lacks = λ (j : ℕ). not (has_number q.possible j) in
      let others = filter lacks (range_with_len 0 n) in
      let linked = map (λ j. literal.Linked i p j) q.required in
      let not_linked = map (λ j. literal.NotLinked i p j) others in
      let least = literal.FreshAtLeast i p n q.fresh_low in
      let most = literal.FreshAtMost i p n q.fresh_high in
      let both = joined_parts holds (linked ++ not_linked) (least ∷ most ∷ []) said in
      let front = joined_parts holds linked not_linked both.0 in
      let bounds = and_parts (holds least) (list_all holds (most ∷ [])) both.1 in
      let low = links_said m c i x at p (λ ls. nat_le q.fresh_low (count_by (nat_le n) ls)) bounds.0 in
      let high = links_said m c i x at p (λ ls. nat_le (count_by (nat_le n) ls) q.fresh_high) (and_parts (holds most) true bounds.1).0 in
      and_from _ _
      (and_from _ _ (required (sym (list_all-map holds (λ j. literal.Linked i p j) q.required) ∙ front.0))
      (possible (sym (list_all-map holds (λ j. literal.NotLinked i p j) others) ∙ front.1)))
      (is_between_from q.fresh_low q.fresh_high (count_by (nat_le n) links) (leb-true q.fresh_low (count_by (nat_le n) links) low, leb-true (count_by (nat_le n) links) q.fresh_high high))
    where
      required : IsTrue (list_all (λ j. has_literal m c (literal.Linked i p j)) q.required)
          → IsTrue (list_all (has_number (filter (λ j. nat_lt j (number_made s)) (links_of m x p))) q.required)
      required each = all_from_has (has_number (filter (λ j. nat_lt j (number_made s)) (links_of m x p))) q.required (λ j there.
          let linked = links_said m c i x at p (λ ls. has_number ls j) (all_has (λ j. has_literal m c (literal.Linked i p j)) q.required j each there) in
          let made = all_has (λ j. nat_lt j (number_made s)) q.possible j port.to_made (all_has (has_number q.possible) q.required j (port_parts q port.formed).within there) in
          has_number-filter (λ j. nat_lt j (number_made s)) (links_of m x p) j ∙ and_from _ _ linked made)

      possible : IsTrue (list_all (λ j. has_literal m c (literal.NotLinked i p j)) (filter (λ j. not (has_number q.possible j)) (range_with_len 0 (number_made s))))
          → IsTrue (list_all (has_number q.possible) (filter (λ j. nat_lt j (number_made s)) (links_of m x p)))
      possible each = all_from_has (has_number q.possible) (filter (λ j. nat_lt j (number_made s)) (links_of m x p)) (λ j there.
          let both = and_parts (has_number (links_of m x p) j) (nat_lt j (number_made s)) (sym (has_number-filter (λ j. nat_lt j (number_made s)) (links_of m x p) j) ∙ there) in
          by j both.0 (ltb-true j (number_made s) both.1) (has_number q.possible j) refl)
        where
          by : (j : ℕ) → IsTrue (has_number (links_of m x p) j) → j < number_made s → (b : Bool) → has_number q.possible j ≡ b → IsTrue (has_number q.possible j)
          by j linked made true there = there
          by j linked made false out =
              let lacks = λ (j : ℕ). not (has_number q.possible j) in
              let numbers = range_with_len 0 (number_made s) in
              let among = has_number-filter lacks numbers j ∙ and_from _ _ (in_range 0 (number_made s) j zero-le (omega (arith, made))) (not_from_false _ out) in
              let apart = links_said m c i x at p (λ ls. not (has_number ls j)) (all_has (λ j. has_literal m c (literal.NotLinked i p j)) (filter lacks numbers) j each among) in
              absurd (false≢true (sym (not-true _ apart) ∙ linked))

  -- links of which the literals of their number hold are as many
  links_counted : HasAll m c (count_description i p q)
      → (length q.required + q.fresh_low ≤ length (links_of m x p)) × (length (links_of m x p) ≤ length q.possible + q.fresh_high)
  unfolding has_literal
  links_counted said =
      let low = length q.required + q.fresh_low in
      let high = length q.possible + q.fresh_high in
      let holds = has_literal m c in
      let both = and_parts (holds (literal.LinksAtLeast i p low)) (list_all holds (literal.LinksAtMost i p high ∷ [])) said in
      let least = links_said m c i x at p (λ ls. nat_le low (length ls)) both.0 in
      let most = links_said m c i x at p (λ ls. nat_le (length ls) high) (and_parts (holds (literal.LinksAtMost i p high)) true both.1).0 in
      (leb-true low (length (links_of m x p)) least, leb-true (length (links_of m x p)) high most)

pub port_is_described : PortIsDescribed
port_is_described m s i p q c x state all is has at here =
    links_allowed m s i p q c x all is at (port_is m s i p q state is) (port_said m s i p q c x all is at (links_description (number_made s) i p) has)

pub counts_are_described : CountsAreDescribed
counts_are_described m s i p q c x all is has at here =
    links_counted m s i p q c x all is at (port_said m s i p q c x all is at (count_description i p) has)
