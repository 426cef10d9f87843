-- A whole state covers its configuration.
use Rattle.std.proofs.Common.{◌≡◌, ℕ, ◌≤◌, ◌<◌, ◌==◌, true, false, ◌&&◌, List, [], ◌∷◌, length, map, refl, ap, sym, ◌∙◌, subst, inl, inr, Some, None, ℤ, pos, arith, lt-ltb, ltb-true, eqb-true}
use Rattle.std.specs.Prelude.{IsTrue, slice_index_or, int_le, neg_ℤ, nat_lt, nat_le}
use Rattle.std.specs.Ordering.{int_eq}
use Rattle.std.specs.Option.{option_map_or}
use Rattle.std.specs.List.{list_any, list_all, filter, count_by, range_with_len}
use Rattle.std.specs.Cmp.{signed_Decides}
use Rattle.std.proofs.lemmas.Bool.{and_parts, and_from, or_cases, or_left, false≢true, eq-eqb}
use Rattle.std.proofs.lemmas.Bool.Decides.{nat_tests}
use Rattle.std.proofs.lemmas.List.{length-map}
use Rattle.std.proofs.lemmas.Option.{same_Some, get_or_from_slice_get}
use lib.Pointwise.{pointwise}
use Rattle.base_laws.specs.Places.{IsAt}
use Rattle.base_laws.proofs.Places.{map_at, at_map}
use Rattle.base_laws.proofs.Tests.{list_all_at, list_all_from, list_any_at, list_any_from, pointwise_from}
use Rattle.base_laws.proofs.Ranges.{range_with_len_lt}
use Rattle.prod_model.specs.declared.model.Model.{Model}
use Rattle.prod_model.specs.declared.model.AttrAt.{AttrAt}
use Rattle.prod_model.specs.declared.model.PortAt.{PortAt}
use Rattle.prod_model.specs.declared.model.Domain.{Domain}
use Rattle.prod_model.specs.declared.model.Domain.TheVariants as domain
use Rattle.prod_model.specs.Limits.{is_within, farthest_end, most_instances}
use Rattle.prod_model.specs.Forest.{is_leaf}
use Rattle.prod_model.specs.Taxonomy.{attributes_at, ports_at, words_of, first_words}
use Rattle.prod_model.specs.Valid.{IsValid, has_ends, narrows_domain}
use Rattle.prod_model.proofs.FirstDomains.{attribute_within_first}
use Rattle.config_value.specs.declared.configuration.Instance.{Instance}
use Rattle.config_value.specs.Value.{value_of, links_of}
use Rattle.config_value.specs.Shaped.{has_leaf_types}
use Rattle.config_value.specs.Spelled.{is_spelled, is_spelled_value, is_spelled_links, is_word_place}
use Rattle.config_value.specs.Literals.{has_attribute, has_port}
use Rattle.config_value.proofs.Places.{is_between_at, is_between_from}
use Rattle.state_space.specs.Sets.{has_number}
use Rattle.state_space.specs.Values.{Values, has_value, least}
use Rattle.state_space.specs.Ports.{PortState, parted, allows, is_closed}
use Rattle.state_space.specs.Made.{MadeInstance, domain_of, port_of_made}
use Rattle.state_space.specs.State.{State, number_made, first_ports, leaves_that, values_of, is_whole_value, IsPortOf, IsMadeOf, IsState}
use Rattle.state_space.specs.Covers.{CoversInstance, Covers, has_value_under, allows_under}
use Rattle.state_space.specs.Whole.{has_one_value, is_settled_port, all_of_type, is_whole_of, is_whole, value_left, links_left, instance_left, whole_configuration}
use Rattle.state_space.specs.Declared.{HasIds}
use Rattle.state_space.specs.Laws.{WholeCoversOne}
use Rattle.state_space.proofs.ValuesLaws.{least-in, le-trans}
use Rattle.state_space.proofs.PortLaws.{all_has, all_from_has, has_number-filter, count_by-none}
use Rattle.state_space.proofs.EntailsLaws.{port_parts}
use Rattle.state_space.proofs.WholeLaws.{position_here, leaf_that, types_read, of_type_at}
use Rattle.state_space.proofs.FewLaws.{first_formed, valid_has_few}
use Rattle.state_space.proofs.GenerationState.{some_told}
use Rattle.state_space.proofs.ValidLaws.{valid_has_ids}
use Rattle.state_space.proofs.ValidStates.{whole_covers_only_one}

-- ---- values that can be spelled

-- a value of a whole domain can be spelled, as one of an attribute whose domain lies within it
spelled_of : (narrow wide : Domain) (v : ℤ) (first : List (List ℕ)) → IsTrue (narrows_domain narrow wide) → IsTrue (has_ends wide) → IsTrue (has_value (values_of wide) v)
    → first ≡ words_of wide
    → IsTrue (elim narrow [ domain.Range low high ↦ is_within farthest_end v | domain.Words words ↦ is_word_place (length first) v ])
spelled_of (domain.Range low high) (domain.Range wide_low wide_high) v first narrows ends there same =
    elim (or_cases (int_le wide_low v && int_le v wide_high) false there) [
      | inr none ↦ absurd (false≢true none)
      | inl inside ↦
          let outer = and_parts (is_within farthest_end wide_low && is_within farthest_end wide_high) (int_le wide_low wide_high) ends in
          let both = and_parts (is_within farthest_end wide_low) (is_within farthest_end wide_high) outer.0 in
          let a = and_parts (int_le (neg_ℤ farthest_end) wide_low) (int_le wide_low farthest_end) both.0 in
          let b = and_parts (int_le (neg_ℤ farthest_end) wide_high) (int_le wide_high farthest_end) both.1 in
          let parts = and_parts (int_le wide_low v) (int_le v wide_high) inside in
          and_from _ _ (le-trans (neg_ℤ farthest_end) wide_low v a.0 parts.0) (le-trans v wide_high farthest_end parts.1 b.1)
    ]
spelled_of (domain.Range low high) (domain.Words wide) v first narrows ends there same = absurd (false≢true narrows)
spelled_of (domain.Words words) (domain.Range wide_low wide_high) v first narrows ends there same = absurd (false≢true narrows)
spelled_of (domain.Words words) (domain.Words wide) v first narrows ends there same =
    let found = list_any_at (λ w. int_eq (pos w) v) (range_with_len 0 (length wide)) there in
    let w = found.1 in
    let below : w < length wide = let low = range_with_len_lt 0 (length wide) found.0 w found.2 in omega (arith, low) in
    let is : pos w ≡ v = (signed_Decides (pos w) v).0 found.3 in
    subst (λ u. IsTrue (is_word_place (length first) u)) is
    (subst (λ ws. IsTrue (nat_lt w (length ws))) (sym same) (lt-ltb w (length wide) below))

-- ---- links of settled ports

module _ (n : ℕ) (q : PortState) (is : IsPortOf n q) where
  -- what is required is made
  required_made : (k : ℕ) → IsTrue (has_number q.required k) → k < n
  required_made k there =
      let possible = all_has (has_number q.possible) q.required k (port_parts q is.formed).within there in
      ltb-true k n (all_has (λ j. nat_lt j n) q.possible k is.to_made possible)

  -- a settled port allows what it requires
  settled_allows : IsTrue (is_settled_port q) → IsTrue (allows q (parted n q.required))
  settled_allows settled =
      let parts = port_parts q is.formed in
      let closed : q.fresh_high ≡ 0 = eqb-true q.fresh_high 0 (and_parts (is_closed q) (list_all (has_number q.required) q.possible) settled).0 in
      let none : count_by (nat_le n) q.required ≡ 0 = count_by-none (nat_le n) q.required (λ k there. let low = required_made k there in grind (arith, nat_tests, low)) in
      and_from _ _ (and_from _ _
      (all_from_has (has_number (filter (λ j. nat_lt j n) q.required)) q.required (λ k there.
      has_number-filter (λ j. nat_lt j n) q.required k ∙ and_from _ _ there (lt-ltb k n (required_made k there))))
      (all_from_has (has_number q.possible) (filter (λ j. nat_lt j n) q.required) (λ k there.
      all_has (has_number q.possible) q.required k parts.within (and_parts (has_number q.required k) (nat_lt k n) (sym (has_number-filter (λ j. nat_lt j n) q.required k) ∙ there)).0)))
      (is_between_from q.fresh_low q.fresh_high (count_by (nat_le n) q.required) (omega (arith, none, closed, parts.bounds), omega (arith, none)))

  -- and that can be spelled, where there are few instances
  required_spelled : n ≤ most_instances → IsTrue (is_spelled_links q.required)
  required_spelled few =
      and_from _ _ (port_parts q is.formed).required_ascends
      (all_from_has (λ j. nat_lt j most_instances) q.required (λ k there. let low = required_made k there in lt-ltb k most_instances (omega (arith, low, few))))

-- ---- one instance

module _ (m : Model) (s : State) (valid : IsValid m) (state : IsState m s) (x : MadeInstance) (made : IsMadeOf m (number_made s) x) (t : ℕ) (sole : x.kinds ≡ t ∷ [])
    (domains : IsTrue (all_of_type has_one_value t s.attribute_types x.domains)) (ports : IsTrue (all_of_type is_settled_port t s.port_types x.ports)) where
  ids : HasIds m
  ids = valid_has_ids m valid

  abbrev left : Instance
  left = record {
    kind = t;
    values = map (λ a. value_left x a.id) (attributes_at m t);
    links = map (λ p. links_left x p.id) (ports_at m t);
  }

  left_is : instance_left m x ≡ left
  left_is = ap (λ ks. let u = slice_index_or ks 0 0 in let y : Instance = record { kind = u; values = map (λ a. value_left x a.id) (attributes_at m u); links = map (λ p. links_left x p.id) (ports_at m u) } in y) sole

  leaf : IsTrue (is_leaf m t)
  leaf = (and_parts (is_leaf m t) true (subst (λ ks. IsTrue (list_all (is_leaf m) ks)) sole made.leaves)).0

  domain_told : (a : ℕ) → IsTrue (has_attribute m t a) → (d : Values) × (domain_of x a ≡ Some d)
  domain_told a has = some_told (domain_of x a) (made.has_domains a (subst (λ ks. IsTrue (list_any (λ u. has_attribute m u a) ks)) (sym sole) (or_left _ _ has)))

  port_told : (p : ℕ) → IsTrue (has_port m t p) → (q : PortState) × (port_of_made x p ≡ Some q)
  port_told p has = some_told (port_of_made x p) (made.has_ports p (subst (λ ks. IsTrue (list_any (λ u. has_port m u p) ks)) (sym sole) (or_left _ _ has)))

  -- the value that is left is one of the domain, and of the whole domain
  value_in : (a : ℕ) → IsTrue (has_attribute m t a) → IsTrue (has_value_under x a (value_left x a))
  value_in a has =
      let d = domain_told a has in
      ap (λ o. option_map_or (λ d. has_value d (option_map_or least o (pos 0))) o false) d.1 ∙ least-in d.0 (made.domains a d.0 d.1).formed

  value_whole : (a : ℕ) → IsTrue (has_attribute m t a) → IsTrue (is_whole_value m a (value_left x a))
  value_whole a has =
      let d = domain_told a has in
      let good = made.domains a d.0 d.1 in
      subst (λ v. IsTrue (is_whole_value m a v)) (sym (ap (λ o. option_map_or least o (pos 0)) d.1)) (good.whole (least d.0) (least-in d.0 good.formed))

  -- the port of an id is settled
  port_settled : (p : ℕ) → IsTrue (has_port m t p) → (q : PortState) → port_of_made x p ≡ Some q → IsTrue (is_settled_port q)
  port_settled p has q there =
      let types = λ (p : ℕ). leaves_that m (λ u. has_port m u p) in
      let at : IsAt s.port_types p (types p) = subst (λ ts. IsAt ts p (types p)) (sym state.port_types) (types_read types (length (first_ports m)) p (ids.ports_declared t p has)) in
      of_type_at is_settled_port t s.port_types x.ports p (types p) q ports at (leaf_that m (λ u. has_port m u p) t leaf has) there

  links_in : (p : ℕ) → IsTrue (has_port m t p) → IsTrue (allows_under (number_made s) x p (links_left x p))
  links_in p has =
      let q = port_told p has in
      ap (λ o. option_map_or (λ q. allows q (parted (number_made s) (option_map_or (λ q. q.required) o []))) o false) q.1
      ∙ settled_allows (number_made s) q.0 (made.ports p q.0 q.1) (port_settled p has q.0 q.1)

  -- what is left stands under its id
  value_here : (a : ℕ) → IsTrue (has_attribute m t a) → value_of m left a ≡ value_left x a
  value_here a has =
      let found = list_any_at (λ (b : AttrAt). b.id == a) (attributes_at m t) has in
      let k = found.0 in let b = found.1 in
      let here : value_of m left b.id ≡ value_left x b.id =
      ap (λ o. option_map_or (λ k. slice_index_or left.values k (pos 0)) o (pos 0)) (position_here (λ (a : AttrAt). a.id) (attributes_at m t) (ids.attributes_apart t) k b found.2)
      ∙ get_or_from_slice_get left.values k (value_left x b.id) (pos 0) (at_map (λ (a : AttrAt). value_left x a.id) (attributes_at m t) k b found.2) in
      subst (λ id. value_of m left id ≡ value_left x id) (eqb-true b.id a found.3) here

  links_here : (p : ℕ) → IsTrue (has_port m t p) → links_of m left p ≡ links_left x p
  links_here p has =
      let found = list_any_at (λ (q : PortAt). q.id == p) (ports_at m t) has in
      let k = found.0 in let q = found.1 in
      let here : links_of m left q.id ≡ links_left x q.id =
      ap (λ o. option_map_or (λ k. slice_index_or left.links k []) o []) (position_here (λ (p : PortAt). p.id) (ports_at m t) (ids.ports_apart t) k q found.2)
      ∙ get_or_from_slice_get left.links k (links_left x q.id) [] (at_map (λ (p : PortAt). links_left x p.id) (ports_at m t) k q found.2) in
      subst (λ id. links_of m left id ≡ links_left x id) (eqb-true q.id p found.3) here

  left_covered : CoversInstance m (number_made s) x left
  left_covered = record {
    kind = subst (λ ks. IsTrue (has_number ks t)) (sym sole) (or_left _ _ (eq-eqb t t refl));
    values = λ a has. subst (λ v. IsTrue (has_value_under x a v)) (sym (value_here a has)) (value_in a has);
    links = λ p has. subst (λ ls. IsTrue (allows_under (number_made s) x p ls)) (sym (links_here p has)) (links_in p has);
  }

  -- the values and links that are left can be spelled
  value_spelled : (k : ℕ) (a : AttrAt) → IsAt (attributes_at m t) k a → IsTrue (is_spelled_value m a (value_left x a.id))
  unfolding first_words
  value_spelled k a at =
      let v = value_left x a.id in
      let first = attribute_within_first m valid.declared t k a at in
      let whole = value_whole a.id (list_any_from (λ (b : AttrAt). b.id == a.id) (attributes_at m t) k a at (eq-eqb a.id a.id refl)) in
      let there : IsTrue (has_value (values_of first.0.domain) v) =
      sym (ap (λ o. option_map_or (λ d. has_value d v) (option_map_or (λ d. Some (values_of d.domain)) o None) false) first.1) ∙ whole in
      spelled_of a.domain first.0.domain v (first_words m a.id) first.2 (first_formed m valid a.id first.0 first.1).0 there
      (ap (λ o. option_map_or (λ d. words_of d.domain) o []) first.1)

  links_spelled : number_made s ≤ most_instances → (k : ℕ) (p : PortAt) → IsAt (ports_at m t) k p → IsTrue (is_spelled_links (links_left x p.id))
  links_spelled few k p at =
      let q = port_told p.id (list_any_from (λ (q : PortAt). q.id == p.id) (ports_at m t) k p at (eq-eqb p.id p.id refl)) in
      subst (λ ls. IsTrue (is_spelled_links ls)) (sym (ap (λ o. option_map_or (λ q. q.required) o []) q.1))
      (required_spelled (number_made s) q.0 (made.ports p.id q.0 q.1) few)

  left_built : IsTrue (is_leaf m left.kind && (length left.values == length (attributes_at m left.kind)) && (length left.links == length (ports_at m left.kind)))
  left_built =
      and_from _ _ (and_from _ _ leaf (eq-eqb (length left.values) (length (attributes_at m t)) (length-map (attributes_at m t) (λ a. value_left x a.id))))
      (eq-eqb (length left.links) (length (ports_at m t)) (length-map (ports_at m t) (λ p. links_left x p.id)))

  left_spelled : number_made s ≤ most_instances → IsTrue (pointwise (is_spelled_value m) (attributes_at m left.kind) left.values && list_all is_spelled_links left.links)
  left_spelled few =
      and_from _ _
      (pointwise_from (is_spelled_value m) (attributes_at m t) left.values (sym (length-map (attributes_at m t) (λ a. value_left x a.id))) (λ k a v at stands.
      let read = map_at (λ (a : AttrAt). value_left x a.id) (attributes_at m t) k v stands in
      let same : read.0 ≡ a = same_Some read.0 a (sym read.1 ∙ at) in
      subst (λ v. IsTrue (is_spelled_value m a v)) (ap (λ (a : AttrAt). value_left x a.id) (sym same) ∙ read.2) (value_spelled k a at)))
      (list_all_from is_spelled_links left.links (λ k ls stands.
      let read = map_at (λ (p : PortAt). links_left x p.id) (ports_at m t) k ls stands in
      subst (λ ls. IsTrue (is_spelled_links ls)) read.2 (links_spelled few k read.0 read.1)))

-- ---- the configuration

-- what a whole state leaves of an instance
record IsLeft (m : Model) (s : State) (x : MadeInstance) (y : Instance) : Type 0 where
  covered : CoversInstance m (number_made s) x y
  built : IsTrue (is_leaf m y.kind && (length y.values == length (attributes_at m y.kind)) && (length y.links == length (ports_at m y.kind)))
  spelled : number_made s ≤ most_instances → IsTrue (pointwise (is_spelled_value m) (attributes_at m y.kind) y.values && list_all is_spelled_links y.links)

-- an instance of a whole state leaves one
is_left : (m : Model) (s : State) → IsValid m → IsState m s → (x : MadeInstance) → IsMadeOf m (number_made s) x → IsTrue (is_whole_of s x x.kinds) → IsLeft m s x (instance_left m x)
is_left m s valid state x made whole = by x.kinds refl whole
  where
    by : (kinds : List ℕ) → x.kinds ≡ kinds → IsTrue (is_whole_of s x kinds) → IsLeft m s x (instance_left m x)
    by [] is whole = absurd (false≢true whole)
    by (t ∷ u ∷ ts) is whole = absurd (false≢true whole)
    by (t ∷ []) is whole =
        let both = and_parts (all_of_type has_one_value t s.attribute_types x.domains) (all_of_type is_settled_port t s.port_types x.ports) whole in
        subst (IsLeft m s x) (sym (left_is m s valid state x made t is both.0 both.1)) (record {
          covered = left_covered m s valid state x made t is both.0 both.1;
          built = left_built m s valid state x made t is both.0 both.1;
          spelled = left_spelled m s valid state x made t is both.0 both.1;
        })

module _ (m : Model) (s : State) (valid : IsValid m) (state : IsState m s) (whole : IsTrue (is_whole s)) where
  -- what is left at a place
  left_at : (k : ℕ) (y : Instance) → IsAt (map (instance_left m) s.made) k y → (x : MadeInstance) × IsAt s.made k x × IsLeft m s x y
  unfolding is_whole
  left_at k y at =
      let read = map_at (instance_left m) s.made k y at in
      let x = read.0 in
      (x, read.1, subst (IsLeft m s x) read.2 (is_left m s valid state x (state.each k x read.1) (list_all_at (λ x. is_whole_of s x x.kinds) s.made whole k x read.1)))

  own_covered : Covers m s (whole_configuration m s)
  unfolding whole_configuration is_spelled has_leaf_types
  own_covered =
      let c = map (instance_left m) s.made in
      let long : length c ≡ number_made s = length-map s.made (instance_left m) in
      let size = is_between_at 1 m.instances (number_made s) state.size in
      let few : number_made s ≤ most_instances = let limit = (valid_has_few m valid).instances in omega (arith, size.1, limit) in
      record {
        spelled = and_from _ _
            (and_from _ _ (is_between_from 1 most_instances (length c) (omega (arith, long, size.0), omega (arith, long, few)))
            (list_all_from (λ x. is_leaf m x.kind && (length x.values == length (attributes_at m x.kind)) && (length x.links == length (ports_at m x.kind))) c (λ k y at. (left_at k y at).2.built)))
            (list_all_from (λ x. pointwise (is_spelled_value m) (attributes_at m x.kind) x.values && list_all is_spelled_links x.links) c (λ k y at. (left_at k y at).2.spelled few));
        enough = omega (arith, long);
        each = λ i x y at_x at_y.
            let found = left_at i y at_y in
            subst (λ x. CoversInstance m (number_made s) x y) (same_Some found.0 x (sym found.1 ∙ at_x)) found.2.covered;
      }

pub whole_covers_one : WholeCoversOne
unfolding whole_configuration
whole_covers_one m s c valid state whole = (
  λ h. whole_covers_only_one m s c valid state whole h.0 h.1,
  λ is. subst (λ c. Covers m s c × (length c ≡ number_made s)) (sym is) (own_covered m s valid state whole, length-map s.made (instance_left m)),
)
