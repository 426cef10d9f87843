-- A shaped configuration of a declared model can be spelled.
use Rattle.std.proofs.Common.{ℕ, ◌≤◌, ◌&&◌, List, length, sym, inl, inr, lt-ltb, arith}
use Rattle.std.specs.Prelude.{slice_get, IsTrue, ℤ, pos, negsuc, nat_lt, int_le, neg_ℤ}
use Rattle.std.specs.List.{list_all, list_any}
use Rattle.std.proofs.lemmas.Bool.{and_parts, and_from}
use Rattle.std.proofs.lemmas.Int.{ints}
use Rattle.std.proofs.lemmas.Option.{slice_get_within, slice_get_cases}
use lib.Pointwise.{pointwise}
use Rattle.prod_model.specs.declared.model.Model.{Model}
use Rattle.prod_model.specs.declared.model.AttrAt.{AttrAt}
use Rattle.prod_model.specs.declared.model.PortAt.{PortAt}
use Rattle.prod_model.specs.declared.model.Domain.{Domain}
use Rattle.prod_model.specs.declared.model.Domain.TheVariants.{Range, Words}
use Rattle.prod_model.specs.Names.{same_text}
use Rattle.prod_model.specs.Limits
use Rattle.prod_model.specs.Limits.{is_within, is_between}
use Rattle.prod_model.specs.Taxonomy.{attributes_at, ports_at, first_words}
use Rattle.prod_model.specs.Valid.{IsDeclared, is_pair, has_ends, has_numbers_in_limits}
use Rattle.config_value.specs.declared.configuration.Instance.{Instance}
use Rattle.config_value.specs.Value.{under, is_under}
use Rattle.config_value.specs.Shaped.{is_in, has_value, has_links_of, has_values, has_links}
use Rattle.config_value.specs.Spelled.{is_spelled, is_spelled_value, is_spelled_links, is_word_place}
use Rattle.base_laws.specs.Places.{IsAt}
use Rattle.config_value.specs.ShapedSentences.{IsBuilt}
use Rattle.config_value.specs.BoundsHold.{ShapedIsSpelled}
use Rattle.base_laws.proofs.Tests.{list_all_at, list_all_from, option_map_or_at, pointwise_at, pointwise_from}
use Rattle.config_value.proofs.Places
use Rattle.config_value.proofs.ShapedParts.{passes_each}
use Rattle.config_value.proofs.ShapedSentences.{shaped_sentences}
use Rattle.prod_model.proofs.EntryLimits.{attribute_ends}

-- ---- values

-- no more instances are in a model than a configuration may have
few_instances : (m : Model) → IsDeclared m → m.instances ≤ Limits.most_instances
unfolding has_numbers_in_limits
few_instances m is =
    let limits = (and_parts (is_between 1 Limits.most_instances m.instances) (list_all (λ b. is_pair b.low b.high) m.bounds) (and_parts _ _ is.formed.numbers_in_limits).0).0 in
    (Places.is_between_at 1 Limits.most_instances m.instances limits).1

-- a number at most a second one, which is at most a third, is at most the third
le_trans : (a b c : ℤ) → IsTrue (int_le a b) → IsTrue (int_le b c) → IsTrue (int_le a c)
le_trans a b c first second = grind (arith, ints)

-- a value in a domain with such ends can be spelled
value_spelled : (m : Model) (a : AttrAt) (v : ℤ) → IsTrue (has_ends a.domain) → IsTrue (has_value m a v) → IsTrue (is_spelled_value m a v)
value_spelled m a v ends value = by a.domain v ends value
  where
    by : (d : Domain) (v : ℤ) → IsTrue (has_ends d) → IsTrue (is_in d (first_words m a.id) v)
        → IsTrue (elim d [ Range low high ↦ is_within Limits.farthest_end v | Words words ↦ is_word_place (length (first_words m a.id)) v ])
    by (Range low high) v ends value =
        let far = and_parts _ _ ends in
        let both = and_parts _ _ far.0 in
        let inside = and_parts _ _ value in
        and_from _ _ (le_trans (neg_ℤ Limits.farthest_end) low v (and_parts _ _ both.0).0 inside.0) (le_trans v high Limits.farthest_end inside.1 (and_parts _ _ both.1).1)
    by (Words words) (pos n) ends value =
        let word = option_map_or_at (λ w. list_any (same_text w) words) (slice_get (first_words m a.id) n) value in
        lt-ltb n (length (first_words m a.id)) (slice_get_within (first_words m a.id) n word.0 word.1)
    by (Words words) (negsuc n) ends value = absurd cc

-- ---- links

-- links to instances can be spelled
links_spelled : (m : Model) (c : List Instance) (p : PortAt) (links : List ℕ) → length c ≤ Limits.most_instances
    → IsTrue (has_links_of m c p links) → IsTrue (is_spelled_links links)
links_spelled m c p links few held =
    let both = and_parts _ _ (and_parts _ _ held).0 in
    and_from _ _ both.0 (list_all_from (λ j. nat_lt j Limits.most_instances) links (λ k j at.
    let instance = option_map_or_at (under m p.target) (slice_get c j) (list_all_at (is_under m c p.target) links both.1 k j at) in
    lt-ltb j Limits.most_instances (omega (arith, slice_get_within c j instance.0 instance.1))))

-- ---- instances

-- what `has_values` says of an instance
values_pass : (m : Model) (c : List Instance) → IsTrue (has_values m c) → (i : ℕ) (x : Instance) → IsAt c i x
    → IsTrue (pointwise (has_value m) (attributes_at m x.kind) x.values)
unfolding has_values
values_pass m c h = list_all_at (λ x. pointwise (has_value m) (attributes_at m x.kind) x.values) c h

-- what `has_links` says of an instance
links_pass : (m : Model) (c : List Instance) → IsTrue (has_links m c) → (i : ℕ) (x : Instance) → IsAt c i x
    → IsTrue (pointwise (has_links_of m c) (ports_at m x.kind) x.links)
unfolding has_links
links_pass m c h = list_all_at (λ x. pointwise (has_links_of m c) (ports_at m x.kind) x.links) c h

-- an instance's values and links can be spelled
instance_spelled : (m : Model) (c : List Instance) → IsDeclared m → (x : Instance) → length c ≤ Limits.most_instances → IsBuilt m x
    → IsTrue (pointwise (has_value m) (attributes_at m x.kind) x.values) → IsTrue (pointwise (has_links_of m c) (ports_at m x.kind) x.links)
    → IsTrue (pointwise (is_spelled_value m) (attributes_at m x.kind) x.values && list_all is_spelled_links x.links)
instance_spelled m c is x few built values links =
    and_from _ _
    (pointwise_from (is_spelled_value m) (attributes_at m x.kind) x.values (sym built.each_attribute) (λ k a v there stands.
    value_spelled m a v (attribute_ends m is x.kind k a there) (pointwise_at (has_value m) (attributes_at m x.kind) x.values values k a v there stands)))
    (list_all_from is_spelled_links x.links (λ k ls stands.
    elim (slice_get_cases (ports_at m x.kind) k).1 [
      | inl port ↦ links_spelled m c port.0 ls few (pointwise_at (has_links_of m c) (ports_at m x.kind) x.links links k port.0 ls port.2 stands)
      | inr past ↦ absurd (omega (arith, slice_get_within x.links k ls stands, built.each_port, past.0))
    ]))

-- A shaped configuration of a valid model can be spelled.
pub shaped_is_spelled : ShapedIsSpelled
unfolding is_spelled
shaped_is_spelled m c is shaped =
    let tests = passes_each m c shaped in
    let s = (shaped_sentences m c).0 shaped in
    let few : length c ≤ Limits.most_instances = omega (arith, s.size.1, few_instances m is) in
    let each : IsTrue (list_all (λ x. pointwise (is_spelled_value m) (attributes_at m x.kind) x.values && list_all is_spelled_links x.links) c) =
    list_all_from (λ x. pointwise (is_spelled_value m) (attributes_at m x.kind) x.values && list_all is_spelled_links x.links) c (λ i x at.
    instance_spelled m c is x few (s.built i x at) (values_pass m c tests.values i x at) (links_pass m c tests.links i x at)) in
    and_from _ _ (and_from _ _ (Places.is_between_from 1 Limits.most_instances (length c) (s.size.0, few)) tests.leaf_types) each
