-- A valid model has its ids and its whole domains.
use Rattle.std.proofs.Common.{◌≡◌, ℕ, ◌<◌, ◌==◌, zero, suc, true, false, not, List, [], ◌∷◌, length, map, refl, ap, sym, ◌∙◌, subst, ℤ, pos, arith, zero-add}
use Rattle.std.specs.Prelude.{IsTrue, int_le, None, Some}
use Rattle.std.specs.Ordering.{int_eq}
use Rattle.std.specs.Option.{option_map_or}
use Rattle.std.specs.List.{list_any, range_with_len}
use Rattle.std.specs.Cmp.{signed_Decides}
use Rattle.std.proofs.lemmas.Int.{ints}
use Rattle.std.proofs.lemmas.Bool.{and_parts, and_from, or_left, false≢true, eq-eqb, eqb-true}
use Rattle.std.proofs.lemmas.Option.{slice_get_within, same_Some}
use Rattle.base_laws.specs.Places.{IsAt}
use Rattle.base_laws.proofs.Places.{map_at, at_map}
use Rattle.base_laws.proofs.Tests.{list_any_at, list_any_from}
use Rattle.base_laws.proofs.Ranges.{slice_get_range_with_len}
use Rattle.prod_model.specs.declared.model.Model.{Model}
use Rattle.prod_model.specs.declared.model.AttrAt.{AttrAt}
use Rattle.prod_model.specs.declared.model.PortAt.{PortAt}
use Rattle.prod_model.specs.declared.model.Domain.{Domain}
use Rattle.prod_model.specs.declared.model.Domain.TheVariants as domain
use Rattle.prod_model.specs.Names.{is_distinct_number}
use Rattle.prod_model.specs.Taxonomy.{Named, made_port, ports_of, attributes_at, ports_at, words_of, first_words}
use Rattle.prod_model.specs.Valid.{IsValid, narrows_domain}
use Rattle.prod_model.proofs.IdLaws.{new_of_entry, attribute_ids_differ, port_ids_differ}
use Rattle.prod_model.proofs.FirstDomains.{attribute_within_first}
use Rattle.prod_model.proofs.Inverses.{declared_at}
use Rattle.config_value.specs.ShapedSentences.{IsValueOf}
use Rattle.config_value.specs.Literals.{has_attribute, has_port}
use Rattle.state_space.specs.Values.{has_value}
use Rattle.state_space.specs.State.{first_attributes, first_ports, values_of}
use Rattle.state_space.specs.Declared.{ValidHasIds, ValidHasWholeDomains}

-- ---- ids

-- an id that stands among later entries is not the first one
twice : {X : Type 0} (id_of : X → ℕ) (x : X) (xs : List X) (k : ℕ) (b : X) → IsTrue (is_distinct_number (map id_of (x ∷ xs))) → IsAt xs k b → id_of x ≡ id_of b → ⊥
twice id_of x xs k b distinct at same =
    let there : list_any (λ n. id_of x == n) (map id_of xs) ≡ true = list_any_from (λ n. id_of x == n) (map id_of xs) k (id_of b) (at_map id_of xs k b at) (eq-eqb (id_of x) (id_of b) same) in
    let other = (and_parts (not (list_any (λ n. id_of x == n) (map id_of xs))) (is_distinct_number (map id_of xs)) distinct).0 in
    false≢true (sym (ap not there) ∙ other)

-- where no id stands twice, entries of one id stand at one place
apart : {X : Type 0} (id_of : X → ℕ) (xs : List X) → IsTrue (is_distinct_number (map id_of xs))
    → (j k : ℕ) (a b : X) → IsAt xs j a → IsAt xs k b → id_of a ≡ id_of b → j ≡ k
apart id_of [] distinct j k a b at_a at_b same = absurd (none_at j at_a)
  where
    none_at : (j : ℕ) → IsAt [] j a → ⊥
    none_at j at = let within = slice_get_within [] j a at in omega (arith, within)
apart id_of (x ∷ xs) distinct zero zero a b at_a at_b same = refl
apart id_of (x ∷ xs) distinct zero (suc k) a b at_a at_b same =
    absurd (twice id_of x xs k b distinct at_b (ap id_of (same_Some x a at_a) ∙ same))
apart id_of (x ∷ xs) distinct (suc j) zero a b at_a at_b same =
    absurd (twice id_of x xs j a distinct at_a (ap id_of (same_Some x b at_b) ∙ sym same))
apart id_of (x ∷ xs) distinct (suc j) (suc k) a b at_a at_b same =
    ap suc (apart id_of xs (and_parts (not (list_any (λ n. id_of x == n) (map id_of xs))) (is_distinct_number (map id_of xs)) distinct).1 j k a b at_a at_b same)

-- an attribute of a type has a first declaration
attribute_declared : (m : Model) → IsValid m → (t a : ℕ) → IsTrue (has_attribute m t a) → a < length (first_attributes m)
attribute_declared m valid t a has =
    let found = list_any_at (λ (b : AttrAt). b.id == a) (attributes_at m t) has in
    let first = attribute_within_first m valid.declared t found.0 found.1 found.2 in
    let within = slice_get_within (first_attributes m) found.1.id first.0 first.1 in
    subst (λ n. n < length (first_attributes m)) (eqb-true found.1.id a found.3) within

-- so has a port
port_declared : (m : Model) → IsValid m → (t p : ℕ) → IsTrue (has_port m t p) → p < length (first_ports m)
unfolding ports_of
port_declared m valid t p has =
    let found = list_any_at (λ (q : PortAt). q.id == p) (ports_at m t) has in
    let bare = declared_at m t found.0 found.1 found.2 in
    let entry = map_at (λ (e : Named PortAt). e.what) (ports_of m.types t) found.0 bare.0 bare.1 in
    let first = new_of_entry (λ d. d.ports) (λ d. d.name) made_port (λ d p. made_port p.id d) (λ (q : PortAt). q.id) (λ id d. refl) (λ d q. refl) m.types t found.0 entry.0 entry.1 in
    let within = slice_get_within (first_ports m) entry.0.what.id first.0 first.1 in
    subst (λ n. n < length (first_ports m)) (ap (λ (q : PortAt). q.id) entry.2 ∙ (ap (λ (q : PortAt). q.id) bare.2 ∙ eqb-true found.1.id p found.3)) within

pub valid_has_ids : ValidHasIds
valid_has_ids m valid = record {
  attributes_declared = attribute_declared m valid;
  ports_declared = port_declared m valid;
  attributes_apart = λ t. apart (λ (a : AttrAt). a.id) (attributes_at m t) (attribute_ids_differ m valid.declared t);
  ports_apart = λ t. apart (λ (p : PortAt). p.id) (ports_at m t) (port_ids_differ m valid.declared t);
}

-- ---- values

-- a value of a domain is one of a domain that it lies within
within_value : (narrow wide : Domain) (v : ℤ) → IsTrue (narrows_domain narrow wide) → IsValueOf narrow (words_of wide) v → IsTrue (has_value (values_of wide) v)
within_value (domain.Range low high) (domain.Range wide_low wide_high) v narrows is =
    let parts = and_parts (int_le wide_low low) (int_le high wide_high) narrows in
    let above : IsTrue (int_le wide_low v) = grind (arith, ints, parts.0, is.0) in
    let below : IsTrue (int_le v wide_high) = grind (arith, ints, parts.1, is.1) in
    or_left _ _ (and_from _ _ above below)
within_value (domain.Range low high) (domain.Words wide) v narrows is = absurd (false≢true narrows)
within_value (domain.Words words) (domain.Range wide_low wide_high) v narrows is = absurd (false≢true narrows)
within_value (domain.Words words) (domain.Words wide) v narrows is =
    let k = is.place in
    list_any_from (λ w. int_eq (pos w) v) (range_with_len 0 (length wide)) k k
    (slice_get_range_with_len 0 (length wide) k (slice_get_within wide k is.word is.first_declared) ∙ ap Some (zero-add k))
    ((signed_Decides (pos k) v).1 (sym is.value))

pub valid_has_whole_domains : ValidHasWholeDomains
unfolding first_words
valid_has_whole_domains m valid t k a v at is =
    let first = attribute_within_first m valid.declared t k a at in
    let words = ap (λ o. option_map_or (λ d. words_of d.domain) o []) first.1 in
    let value = within_value a.domain first.0.domain v first.2 (subst (λ ws. IsValueOf a.domain ws v) words is) in
    ap (λ o. option_map_or (λ d. has_value d v) (option_map_or (λ d. Some (values_of d.domain)) o None) false) first.1 ∙ value
