-- What `is_shaped` tests is what `HasShape` says.
use Rattle.std.proofs.Common.{◌≡◌, ℕ, ◌<◌, ◌≤◌, ◌==◌, ℤ, pos, negsuc, List, refl, ap, ◌∙◌, sym, subst, length, slice_get, Some, eqb-true, leb-true, le-leb, arith, zero-add, if◌then◌else◌, T, le_of_lt}
use Rattle.std.proofs.lemmas.Bool.{and_parts, and_from}
use Rattle.std.specs.Prelude.{Bool, true, false, IsTrue, nat_le}
use Rattle.std.specs.Bool.{passes}
use Rattle.std.specs.List.{list_any, count_by}
use Rattle.std.specs.Int.Signed.{le_z_yes}
use lib.Pointwise.{pointwise, bytes_decides}
use Rattle.prod_model.specs.declared.model.Model.{Model}
use Rattle.prod_model.specs.declared.model.Domain.{Domain}
use Rattle.prod_model.specs.declared.model.Domain.TheVariants.{Range, Words}
use Rattle.prod_model.specs.declared.model.PortAt.{PortAt}
use Rattle.prod_model.specs.Names.{same_text}
use Rattle.prod_model.specs.Limits.{is_between}
use Rattle.prod_model.specs.Taxonomy.{first_words, attributes_at, ports_at}
use Rattle.config_value.specs.declared.configuration.Instance.{Instance}
use Rattle.config_value.specs.Value.{under, is_under}
use Rattle.config_value.specs.Shaped.{is_in, has_value, has_links_of, has_leaf_types, has_root, has_size, has_values, has_links, has_single_parts, has_counts, instance_numbers, part_links}
use Rattle.config_value.specs.ShapedSentences.{IsInstanceUnder, IsValueOf, AreLinksOf, HasShape, ShapedSentences}
use Rattle.base_laws.proofs.Ranges.{range_with_len_lt, slice_get_range_with_len}
use Rattle.base_laws.proofs.Tests.{list_all_at, list_all_from, list_any_at, list_any_from, option_map_or_at, option_map_or_from, pointwise_at, pointwise_from}
use Rattle.base_laws.proofs.Counts.{counted_once, once_counted, counted_nowhere, nowhere_counted}
use Rattle.config_value.specs.Links.{LinkPlace, IsPartLink}
use Rattle.config_value.proofs.PartLinks.{parts_once, once_parts, parts_nowhere, nowhere_parts}
use Rattle.std.proofs.lemmas.Option.{slice_get_within}
use Rattle.config_value.proofs.Places
use Rattle.config_value.proofs.LinksBack.{links_back_at, links_back_from, has_links_back_at, has_links_back_from, each_links_back, links_back_each}
use Rattle.config_value.proofs.ShapedParts.{PassesEach, passes_each, is_shaped_from, is_built, is_built_at, is_built_from}

-- ---- instances and their types

-- where the number passes the test there is an instance under the type
under_at : (m : Model) (c : List Instance) (t i : ℕ) → IsTrue (is_under m c t i) → IsInstanceUnder m c t i
under_at m c t i h =
    let found = option_map_or_at (under m t) (slice_get c i) h in
    record { instance = found.0; there = found.1; of_type = found.2 }

-- an instance under the type passes the test of its number
under_from : (m : Model) (c : List Instance) (t i : ℕ) → IsInstanceUnder m c t i → IsTrue (is_under m c t i)
under_from m c t i u = option_map_or_from (under m t) (slice_get c i) u.instance u.there u.of_type

-- ---- values

-- what holds as a type is true as a test
true_from_T : (b : Bool) → T b → IsTrue b
true_from_T true t = refl
true_from_T false t = absurd t

-- a value in the domain is in the range, or is the place of one of the words
is_in_at : (d : Domain) (first : List (List ℕ)) (v : ℤ) → IsTrue (is_in d first v) → IsValueOf d first v
is_in_at (Range low high) first v h = let both = and_parts _ _ h in (le_z_yes (passes _ both.0), le_z_yes (passes _ both.1))
is_in_at (Words words) first (pos n) h =
    let found = option_map_or_at (λ w. list_any (same_text w) words) (slice_get first n) h in
    let allowed = list_any_at (same_text found.0) words found.2 in
    record {
      place = n;
      value = refl;
      word = found.0;
      first_declared = found.1;
      place_among = allowed.0;
      among = allowed.2 ∙ ap Some (sym ((bytes_decides found.0 allowed.1).0 allowed.3));
    }
is_in_at (Words words) first (negsuc n) h = absurd cc

-- a value in the range, or the place of one of the words, is in the domain
is_in_from : (d : Domain) (first : List (List ℕ)) (v : ℤ) → IsValueOf d first v → IsTrue (is_in d first v)
is_in_from (Range low high) first v h = and_from _ _ (true_from_T _ (h.0).le) (true_from_T _ (h.1).le)
is_in_from (Words words) first v p =
    let same = (bytes_decides p.word p.word).1 refl in
    let allowed = list_any_from (same_text p.word) words p.place_among p.word p.among same in
    let found = option_map_or_from (λ w. list_any (same_text w) words) (slice_get first p.place) p.word p.first_declared allowed in
    subst (λ u. IsTrue (is_in (Words words) first u)) (sym p.value) found

-- ---- links

-- links that pass the test of a port are links of it
has_links_of_at : (m : Model) (c : List Instance) (p : PortAt) (links : List ℕ) → IsTrue (has_links_of m c p links) → AreLinksOf m c p links
has_links_of_at m c p links h =
    let both = and_parts _ _ h in
    let first = and_parts _ _ both.0 in
    record {
      ascending = Places.ascends_at links first.0;
      on_target = λ k i e. under_at m c p.target i (list_all_at (is_under m c p.target) links first.1 k i e);
      number = Places.is_between_at p.low p.high (length links) both.1;
    }

-- links of a port pass its test
has_links_of_from : (m : Model) (c : List Instance) (p : PortAt) (links : List ℕ) → AreLinksOf m c p links → IsTrue (has_links_of m c p links)
has_links_of_from m c p links l =
    let target = list_all_from (is_under m c p.target) links (λ k i e. under_from m c p.target i (l.on_target k i e)) in
    and_from _ _ (and_from _ _ (Places.ascends_from links l.ascending) target) (Places.is_between_from p.low p.high (length links) l.number)

-- ---- parts

-- if there are as many part links as an instance may have, there is one at most
single_at : (n j : ℕ) → IsTrue (nat_le n (if j == 0 then 0 else 1)) → n ≤ 1
single_at n j h = by (j == 0) h
  where
    by : (b : Bool) → IsTrue (nat_le n (if b then 0 else 1)) → n ≤ 1
    by true h = le_of_lt (omega (arith, leb-true n 0 h))
    by false h = leb-true n 1 h

-- one part link at most, and none for instance 0, are as many as the instance may have
single_from : (n j : ℕ) → n ≤ 1 → (j ≡ 0 → n ≡ 0) → IsTrue (nat_le n (if j == 0 then 0 else 1))
single_from n j h whole = by (j == 0) (λ e. whole (eqb-true j 0 e))
  where
    by : (b : Bool) → (b ≡ true → n ≡ 0) → IsTrue (nat_le n (if b then 0 else 1))
    by true w = le-leb n 0 (omega (arith, w refl))
    by false w = le-leb n 1 h

-- how many links of part ports lead to the instance of that number
parts_into : Model → List Instance → ℕ → ℕ
parts_into m c j = count_by (λ k. k == j) (part_links m c)

-- the test of the links into one instance
has_single_part : Model → List Instance → ℕ → Bool
has_single_part m c j = nat_le (parts_into m c j) (if j == 0 then 0 else 1)

-- what `has_single_parts` says of each instance's number
single_part_at : (m : Model) (c : List Instance) → IsTrue (has_single_parts m c) → (j : ℕ) → j < length c → IsTrue (has_single_part m c j)
unfolding has_single_parts has_single_part parts_into
single_part_at m c h j within =
    list_all_at (has_single_part m c) (instance_numbers c) h j j (slice_get_range_with_len 0 (length c) j within ∙ ap Some (zero-add j))

-- `has_single_parts` says no more than that
single_parts_from : (m : Model) (c : List Instance) → ((j : ℕ) → j < length c → IsTrue (has_single_part m c j)) → IsTrue (has_single_parts m c)
unfolding has_single_parts has_single_part parts_into
single_parts_from m c h = list_all_from (has_single_part m c) (instance_numbers c) (λ k j e. h j (rw (← zero-add (length c)) (range_with_len_lt 0 (length c) k j e)))

-- ---- the whole

-- a configuration that passes each test has the shape
has_shape : (m : Model) (c : List Instance) → PassesEach m c → HasShape m c
unfolding has_leaf_types has_root has_size has_values has_links has_counts has_single_part parts_into
has_shape m c p =
    let size = Places.is_between_at 1 m.instances (length c) p.size in
    record {
      size = size;
      root = under_at m c m.root 0 p.root;
      built = λ i x e. is_built_at m x (list_all_at (is_built m) c p.leaf_types i x e);
      values = λ i k x a v e f g. is_in_at a.domain (first_words m a.id) v
          (pointwise_at (has_value m) (attributes_at m x.kind) x.values
          (list_all_at (λ x. pointwise (has_value m) (attributes_at m x.kind) x.values) c p.values i x e) k a v f g);
      links = λ i k x q links e f g. has_links_of_at m c q links
          (pointwise_at (has_links_of m c) (ports_at m x.kind) x.links
          (list_all_at (λ x. pointwise (has_links_of m c) (ports_at m x.kind) x.links) c p.links i x e) k q links f g);
      parts = λ j a b first second. once_parts m c j
          (once_counted (λ k. k == j) (part_links m c) (single_at (parts_into m c j) j (single_part_at m c p.single_parts j (there j a first)))) a b first second;
      whole = nowhere_parts m c 0 (nowhere_counted (λ k. k == 0) (part_links m c) (zero_at (parts_into m c 0) (single_part_at m c p.single_parts 0 size.0)));
      links_back = λ i k h j id x q links e f g inverse leads. links_back_at m c id i j
          (links_back_each m c i q links (has_links_back_at m c p.links_back i k x q links e f g) id h j inverse leads);
      counts = λ k b e. Places.is_between_at b.low b.high (count_by (under m b.kind) c)
          (list_all_at (λ b. is_between b.low b.high (count_by (under m b.kind) c)) m.bounds p.counts k b e);
    }
  where
    -- a part link leads to an instance
    there : (j : ℕ) (a : LinkPlace) → IsPartLink m c j a → j < length c
    there j a is =
        let tests = pointwise_at (has_links_of m c) (ports_at m is.link.instance.kind) is.link.instance.links
        (list_all_at (λ x. pointwise (has_links_of m c) (ports_at m x.kind) x.links) c p.links a.from is.link.instance is.link.stands) a.port is.port is.link.links is.declared is.link.linked in
        let target = (has_links_of_at m c is.port is.link.links tests).on_target a.place j is.link.leads in
        slice_get_within c j target.instance target.there

    zero_at : (n : ℕ) → IsTrue (nat_le n 0) → n ≡ 0
    zero_at n h = omega (arith, leb-true n 0 h)

-- a configuration of the shape passes each test
passes_from : (m : Model) (c : List Instance) → HasShape m c → PassesEach m c
unfolding has_leaf_types has_root has_size has_values has_links has_counts has_single_part parts_into
passes_from m c s = record {
  leaf_types = list_all_from (is_built m) c (λ i x e. is_built_from m x (s.built i x e));
  root = under_from m c m.root 0 s.root;
  size = Places.is_between_from 1 m.instances (length c) s.size;
  values = list_all_from (λ x. pointwise (has_value m) (attributes_at m x.kind) x.values) c (λ i x e.
      pointwise_from (has_value m) (attributes_at m x.kind) x.values (sym (s.built i x e).each_attribute) (λ k a v f g.
      is_in_from a.domain (first_words m a.id) v (s.values i k x a v e f g)));
  links = list_all_from (λ x. pointwise (has_links_of m c) (ports_at m x.kind) x.links) c (λ i x e.
      pointwise_from (has_links_of m c) (ports_at m x.kind) x.links (sym (s.built i x e).each_port) (λ k q links f g.
      has_links_of_from m c q links (s.links i k x q links e f g)));
  single_parts = single_parts_from m c (λ j within.
      single_from (parts_into m c j) j (counted_once (λ k. k == j) (part_links m c) (parts_once m c j (s.parts j)))
      (λ first. ap (parts_into m c) first ∙ counted_nowhere (λ k. k == 0) (part_links m c) (parts_nowhere m c 0 s.whole)));
  links_back = has_links_back_from m c s.built (λ i k x p links e f g. each_links_back m c i p links (λ id h j inverse leads.
      links_back_from m c id i j (s.links_back i k h j id x p links e f g inverse leads)));
  counts = list_all_from (λ b. is_between b.low b.high (count_by (under m b.kind) c)) m.bounds (λ k b e.
      Places.is_between_from b.low b.high (count_by (under m b.kind) c) (s.counts k b e));
}

-- a configuration is shaped exactly where it has the shape
pub shaped_sentences : ShapedSentences
shaped_sentences m c = (λ h. has_shape m c (passes_each m c h), λ s. is_shaped_from m c (passes_from m c s))
