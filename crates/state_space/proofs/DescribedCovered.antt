-- What has the descriptions of all made instances is covered.
use Rattle.std.proofs.Common.{◌≡◌, ℕ, ◌-◌, ◌<◌, Bool, true, false, not, ◌&&◌, List, [], ◌∷◌, ◌++◌, length, map, refl, ap, sym, ◌∙◌, subst, Some, None, Option, pos, arith, ltb-true}
use Rattle.std.specs.Prelude.{IsTrue, ◌==◌, slice_get, slice_index_or}
use Rattle.std.specs.Option.{option_map_or, option_and_then, is_some}
use Rattle.std.specs.List.{list_all, flat_map}
use Rattle.std.proofs.lemmas.Bool.{and_parts, eqb-true, false≢true}
use Rattle.std.proofs.lemmas.Option.{slice_get_within, slice_get-get_or}
use Rattle.base_laws.specs.Places.{IsAt}
use Rattle.base_laws.proofs.Tests.{list_any_at, option_map_or_from}
use Rattle.prod_model.specs.declared.model.Model.{Model}
use Rattle.prod_model.specs.declared.model.AttrAt.{AttrAt}
use Rattle.prod_model.specs.declared.model.PortAt.{PortAt}
use Rattle.prod_model.specs.Forest.{is_type, is_leaf}
use Rattle.prod_model.specs.Taxonomy.{attributes_at, ports_at}
use Rattle.config_value.specs.declared.configuration.Instance.{Instance}
use Rattle.config_value.specs.declared.literal.Literal.TheVariants as literal
use Rattle.config_value.specs.Shaped.{is_shaped}
use Rattle.config_value.specs.ShapedSentences.{HasShape}
use Rattle.config_value.specs.Numbered.{is_numbered}
use Rattle.config_value.specs.Spelled.{is_spelled}
use Rattle.config_value.specs.Satisfies.{satisfies, follows_rules}
use Rattle.config_value.specs.Value.{value_of, links_of}
use Rattle.config_value.specs.Literals.{has_literal, has_attribute, has_port}
use Rattle.config_value.proofs.Places.{is_between_at}
use Rattle.config_value.proofs.ShapedSentences.{shaped_sentences}
use Rattle.config_value.proofs.SpelledLaws.{shaped_is_spelled}
use Rattle.state_space.specs.Made.{MadeInstance, domain_of, port_of_made}
use Rattle.state_space.specs.Values.{has_value, is_empty}
use Rattle.state_space.specs.Ports.{PortState, parted, allows}
use Rattle.state_space.specs.Sets.{has_number}
use Rattle.state_space.specs.State.{State, IsState, number_made, kinds_at, port_at, leaves_that}
use Rattle.state_space.specs.Covers.{has_value_under, allows_under}
use Rattle.state_space.specs.Declared.{HasIds}
use Rattle.state_space.specs.Unshared.{IsWide}
use Rattle.state_space.specs.Descriptions.{kinds_description, attribute_description, port_description, first_kind, description}
use Rattle.state_space.specs.Described.{HasAll, DescribedIsCovered}
use Rattle.state_space.proofs.NarrowingLaws.{true_along}
use Rattle.state_space.proofs.ValidLaws.{valid_has_ids}
use Rattle.state_space.proofs.OpenPort.{find_place}
use Rattle.state_space.proofs.EntailsLaws.{links_ascend, spelled_links_at}
use Rattle.state_space.proofs.GenerationKept.{value_at_place, port_links}
use Rattle.state_space.proofs.DescriptionLists.{joined_parts, flat_each}
use Rattle.state_space.proofs.DescribedParts.{one_of_all, kinds_are_described, attribute_is_described, port_is_described}

-- ---- the parts of a description

-- The types of an instance, and each attribute and port that the first possible type has, are as a configuration has them.
record IsDescribed (m : Model) (s : State) (c : List Instance) (i : ℕ) : Type 0 where
  pub kinds : HasAll m c (kinds_description m s i)
  pub attributes : (k : ℕ) (a : AttrAt) → IsAt (attributes_at m (first_kind s i)) k a → HasAll m c (attribute_description m s i a.id)
  pub ports : (k : ℕ) (p : PortAt) → IsAt (ports_at m (first_kind s i)) k p → HasAll m c (port_description m s i p.id)

described_parts : (m : Model) (s : State) (c : List Instance) (i : ℕ) → HasAll m c (description m s i) → IsDescribed m s c i
unfolding description
described_parts m s c i said =
    let holds = has_literal m c in
    let of_attributes = λ (a : AttrAt). attribute_description m s i a.id in
    let of_ports = λ (p : PortAt). port_description m s i p.id in
    let attributes = attributes_at m (first_kind s i) in
    let ports = ports_at m (first_kind s i) in
    let both = joined_parts holds (kinds_description m s i ++ flat_map of_attributes attributes) (flat_map of_ports ports) said in
    let front = joined_parts holds (kinds_description m s i) (flat_map of_attributes attributes) both.0 in
    record {
      kinds = front.0;
      attributes = flat_each holds of_attributes attributes front.1;
      ports = flat_each holds of_ports ports both.1;
    }

-- the described instance is there
described_there : (m : Model) (s : State) (c : List Instance) (i : ℕ) → HasAll m c (kinds_description m s i) → i < length c
unfolding has_literal
described_there m s c i said =
    let none = map (λ t. literal.NotKind i t) (leaves_that m (λ t. not (has_number (kinds_at s i) t))) in
    ltb-true i (length c) (and_parts (has_literal m c (literal.Made i)) (list_all (has_literal m c) none) said).0

-- what all possible types pass the first one passes
first_passes : (test : ℕ → Bool) (kinds : List ℕ) → IsTrue (not (is_empty kinds)) → IsTrue (list_all test kinds) → IsTrue (test (slice_index_or kinds 0 0))
first_passes test [] some all = absurd (false≢true some)
first_passes test (t ∷ ts) some all = (and_parts (test t) (list_all test ts) all).0

-- ---- one instance

module _ (m : Model) (s : State) (c : List Instance) (ids : HasIds m) (state : IsState m s) (wide : IsWide m s) (shape : HasShape m c) (i : ℕ) (x : MadeInstance) (y : Instance)
    (made : IsAt s.made i x) (there : IsAt c i y) (said : IsDescribed m s c i) where
  -- it is of a possible type
  kind_covered : IsTrue (has_number x.kinds y.kind)
  unfolding is_leaf
  kind_covered =
      let leaf = (shape.built i y there).leaf in
      let type = ltb-true y.kind (length m.types) (and_parts (is_type m y.kind) (list_all (λ d. not (option_map_or (λ p. p == y.kind) d.parent false)) m.types) leaf).0 in
      true_along _ _ (ap (λ o. has_number (option_map_or (λ x. x.kinds) o []) y.kind) made) (kinds_are_described m s i c y said.kinds there leaf type)

  -- the first possible type passes what all pass
  first_has : (test : ℕ → Bool) → IsTrue (list_all test x.kinds) → IsTrue (test (first_kind s i))
  first_has test all = true_along _ _ (ap (λ o. test (slice_index_or (option_map_or (λ x. x.kinds) o []) 0 0)) (sym made)) (first_passes test x.kinds (state.each i x made).some all)

  -- its values are possible: those of what all possible types have by the description, and all others as the state is wide
  value_covered : (a : ℕ) → IsTrue (has_attribute m y.kind a) → IsTrue (has_value_under x a (value_of m y a))
  value_covered a has = by (list_all (λ t. has_attribute m t a) x.kinds) refl
    where
      by : (b : Bool) → list_all (λ t. has_attribute m t a) x.kinds ≡ b → IsTrue (has_value_under x a (value_of m y a))
      by true all =
          let v = value_of m y a in
          let every = option_map_or_from (λ x. list_all (λ t. has_attribute m t a) x.kinds) (slice_get s.made i) x made all in
          let found = list_any_at (λ (b : AttrAt). b.id == a) (attributes_at m (first_kind s i)) (first_has (λ t. has_attribute m t a) all) in
          let of_it = subst (λ id. HasAll m c (attribute_description m s i id)) (eqb-true found.1.id a found.3) (said.attributes found.0 found.1 found.2) in
          true_along _ _ (ap (λ o. option_map_or (λ d. has_value d v) (option_and_then (λ x. domain_of x a) o) false) made)
          (attribute_is_described m s i a c y state every of_it there has)
      by false none =
          let found = list_any_at (λ (b : AttrAt). b.id == a) (attributes_at m y.kind) has in
          let k = found.0 in let b = found.1 in
          let long = (shape.built i y there).each_attribute in
          let v = slice_index_or y.values k (pos 0) in
          let value : IsAt y.values k v = slice_get-get_or y.values k (pos 0) (subst (λ n. k < n) (sym long) (slice_get_within (attributes_at m y.kind) k b found.2)) in
          let same = value_at_place m c ids shape i y there k b v found.2 value in
          let is = eqb-true b.id a found.3 in
          subst (λ id. IsTrue (has_value_under x id (value_of m y id))) is
          (subst (λ u. IsTrue (has_value_under x b.id u)) (sym same)
          (wide.values i y.kind k x b v made (ap (λ id. list_all (λ t. has_attribute m t id) x.kinds) is ∙ none) kind_covered found.2 (shape.values i k y b v there found.2 value)))

  -- and so are its links
  links_covered : IsTrue (is_spelled m c) → (p : ℕ) → IsTrue (has_port m y.kind p) → IsTrue (allows_under (number_made s) x p (links_of m y p))
  links_covered spelled p has = by (list_all (λ t. has_port m t p) x.kinds) refl
    where
      with_port : IsTrue (list_all (λ t. has_port m t p) x.kinds) → (o : Option PortState) → port_of_made x p ≡ o → IsTrue (is_some o)
          → IsTrue (allows_under (number_made s) x p (links_of m y p))
      with_port all None is some = absurd (false≢true some)
      with_port all (Some q) is some =
          let every = option_map_or_from (λ x. list_all (λ t. has_port m t p) x.kinds) (slice_get s.made i) x made all in
          let stands : port_at s i p ≡ Some q = ap (λ o. option_and_then (λ x. port_of_made x p) o) made ∙ is in
          let found = list_any_at (λ (r : PortAt). r.id == p) (ports_at m (first_kind s i)) (first_has (λ t. has_port m t p) all) in
          let of_it = subst (λ id. HasAll m c (port_description m s i id)) (eqb-true found.1.id p found.3) (said.ports found.0 found.1 found.2) in
          option_map_or_from (λ q. allows q (parted (number_made s) (links_of m y p))) (port_of_made x p) q is
          (port_is_described m s i p q c y state every stands of_it there has)

      by : (b : Bool) → list_all (λ t. has_port m t p) x.kinds ≡ b → IsTrue (allows_under (number_made s) x p (links_of m y p))
      by true all =
          let is = state.each i x made in
          with_port all (port_of_made x p) refl (is.has_ports p (one_of_all (λ t. has_port m t p) x.kinds is.some all))
      by false none =
          let port = port_links m c ids shape i y there p has in
          let place = find_place (λ (r : PortAt). r.id == p) (ports_at m y.kind) port.0 port.1 in
          let is = eqb-true port.0.id p place.2 in
          subst (λ id. IsTrue (allows_under (number_made s) x id (links_of m y p))) is
          (wide.links i y.kind place.0 x port.0 (links_of m y p) made (ap (λ id. list_all (λ t. has_port m t id) x.kinds) is ∙ none) kind_covered place.1
          (links_ascend m y p (spelled_links_at m c i y spelled there)) port.2.number.1)

-- ---- the configuration

pub described_is_covered : DescribedIsCovered
unfolding satisfies
described_is_covered m s c valid state wide satisfied said =
    let shaped = (and_parts (is_shaped m c) (is_numbered c) (and_parts (is_shaped m c && is_numbered c) (follows_rules m c) satisfied).0).0 in
    let spelled = shaped_is_spelled m c valid.declared shaped in
    let shape = (shaped_sentences m c).0 shaped in
    let ids = valid_has_ids m valid in
    let some = (is_between_at 1 m.instances (number_made s) state.size).0 in
    let last = number_made s - 1 in
    let within = described_there m s c last (described_parts m s c last (said last (omega (arith, some)))).kinds in
    record {
      spelled = spelled;
      enough = omega (arith, some, within);
      each = λ i x y made there.
          let parts = described_parts m s c i (said i (slice_get_within s.made i x made)) in
          record {
            kind = kind_covered m s c ids state wide shape i x y made there parts;
            values = value_covered m s c ids state wide shape i x y made there parts;
            links = links_covered m s c ids state wide shape i x y made there parts spelled;
          };
    }
