-- A new instance of a valid model is one of a state, and the root is a state.
use Rattle.std.proofs.Common.{◌≡◌, ℕ, ◌≤◌, ◌<◌, ◌+◌, ◌==◌, zero, suc, Bool, true, false, not, List, [], ◌∷◌, length, map, refl, ap, sym, ◌∙◌, subst, inl, inr, Some, None, Option, arith, zero-le, zero-add, lt-ltb, le-leb}
use Rattle.std.specs.Prelude.{IsTrue, nat_lt, max, if◌then◌else◌}
use Rattle.std.specs.Option.{option_map, option_map_or, is_some}
use Rattle.std.specs.List.{list_any, list_all, filter, fold, range_with_len, enumerate_from, cons_option}
use Rattle.std.proofs.lemmas.Bool.{and_parts, and_from, false≢true, eq-eqb}
use Rattle.std.proofs.lemmas.List.{length-map}
use Rattle.std.proofs.lemmas.List.FromFn.{length-range_with_len}
use Rattle.std.proofs.lemmas.Option.{same_Some, none-some, slice_get-map, slice_get_cases}
use Rattle.base_laws.specs.Places.{IsAt}
use Rattle.base_laws.proofs.Places.{map_at}
use Rattle.base_laws.proofs.Tests.{list_any_at, list_any_from}
use Rattle.base_laws.proofs.Ranges.{slice_get_range_with_len}
use Rattle.base_laws.proofs.Searches.{any_found}
use Rattle.prod_model.specs.declared.model.Model.{Model}
use Rattle.prod_model.specs.declared.model.AttrDecl.{AttrDecl}
use Rattle.prod_model.specs.declared.model.PortAt.{PortAt}
use Rattle.prod_model.specs.declared.model.Domain.{Domain}
use Rattle.prod_model.specs.declared.model.Domain.TheVariants as domain
use Rattle.prod_model.specs.Limits.{is_between, most_types, most_words, most_links, most_instances}
use Rattle.prod_model.specs.Forest.{is_a, is_leaf, type_numbers}
use Rattle.prod_model.specs.Taxonomy.{ports_at, port_of}
use Rattle.prod_model.specs.Valid.{IsValid, has_ends, has_few_words, has_known_types, has_numbers_in_limits}
use Rattle.prod_model.proofs.LeafLaws.{leaf_under}
use Rattle.config_value.specs.Shaped.{ascends}
use Rattle.config_value.specs.Literals.{has_attribute, has_port}
use Rattle.config_value.proofs.Places.{is_between_at, is_between_from}
use Rattle.state_space.specs.Sets.{has_number, is_set_below}
use Rattle.state_space.specs.Values.{Values, has_value, has_words, are_values, is_empty}
use Rattle.state_space.specs.Ports.{PortState}
use Rattle.state_space.specs.Made.{MadeInstance, domain_of, port_of_made}
use Rattle.state_space.specs.State.{first_attributes, first_ports, leaves_that, leaves_under, values_of, whole_domain, IsDomainOf, IsPortOf, IsMadeOf}
use Rattle.state_space.specs.Root.{new_instance, ports_under, whole_links, root}
use Rattle.state_space.specs.Declared.{HasIds, HasFew}
use Rattle.state_space.specs.Laws.{RootIsState}
use Rattle.state_space.proofs.PortLaws.{all_has, all_from_has, has_number-filter, ascends-filter}
use Rattle.state_space.proofs.WholeLaws.{map_read, table_read, leaf_that}
use Rattle.state_space.proofs.OpenPort.{find_place}
use Rattle.state_space.proofs.NewLaws.{slice_get-enumerate_from, entry_at, among_ports}
use Rattle.state_space.proofs.GenerationKept.{enumerated_at}
use Rattle.state_space.proofs.FewLaws.{first_formed, valid_has_few}
use Rattle.state_space.proofs.ValidLaws.{valid_has_ids}

-- ---- sets of numbers

-- numbers from a on ascend
pub ascends-range : (a n : ℕ) → IsTrue (ascends (range_with_len a n))
ascends-range a zero = refl
ascends-range a (suc zero) = refl
ascends-range a (suc (suc n)) = and_from _ _ (lt-ltb a (a + 1) (omega arith)) (ascends-range (a + 1) (suc n))

-- they are below their end
pub range_below : (a n bound : ℕ) → a + n ≤ bound → IsTrue (list_all (λ k. nat_lt k bound) (range_with_len a n))
range_below a zero bound few = refl
range_below a (suc n) bound few = and_from _ _ (lt-ltb a bound (omega (arith, few))) (range_below (a + 1) n bound (omega (arith, few)))

-- those that pass one test pass another that all pass
filter_all : (test p : ℕ → Bool) (xs : List ℕ) → IsTrue (list_all test xs) → IsTrue (list_all test (filter p xs))
filter_all test p xs all = all_from_has test (filter p xs) (λ k there.
    all_has test xs k all (and_parts (has_number xs k) (p k) (sym (has_number-filter p xs k) ∙ there)).0)

-- those that pass a test pass it
filter_passes : (p : ℕ → Bool) (xs : List ℕ) → IsTrue (list_all p (filter p xs))
filter_passes p xs = all_from_has p (filter p xs) (λ k there. (and_parts (has_number xs k) (p k) (sym (has_number-filter p xs k) ∙ there)).1)

-- a set with a number is not empty
some_from : (ks : List ℕ) (k : ℕ) → IsTrue (has_number ks k) → IsTrue (not (is_empty ks))
some_from [] k there = absurd (false≢true there)
some_from (j ∷ js) k there = refl

-- a number at a place is in the set
at_has : (ks : List ℕ) (i k : ℕ) → IsAt ks i k → IsTrue (has_number ks k)
at_has ks i k at = list_any_from (λ j. j == k) ks i k at (eq-eqb k k refl)

-- ---- possible types

module _ (m : Model) (test : ℕ → Bool) where
  leaves_formed : length m.types ≤ 128 → IsTrue (is_set_below most_types (leaves_that m test))
  leaves_formed few =
      let below : ℕ → Bool = λ k. nat_lt k most_types in
      let types = type_numbers m.types in
      let all = range_below 0 (length m.types) most_types (omega (arith, few)) in
      and_from _ _
      (ascends-filter test (filter (is_leaf m) types) (ascends-filter (is_leaf m) types (ascends-range 0 (length m.types))))
      (filter_all below test (filter (is_leaf m) types) (filter_all below (is_leaf m) types all))

  leaves_are : IsTrue (list_all (is_leaf m) (leaves_that m test))
  leaves_are = filter_all (is_leaf m) test (filter (is_leaf m) (type_numbers m.types)) (filter_passes (is_leaf m) (type_numbers m.types))

-- ---- values

-- the values of a declaration are in order
values_formed : (d : Domain) → IsTrue (has_ends d) → IsTrue (has_few_words d) → IsTrue (are_values (values_of d))
values_formed (domain.Range low high) ends few =
    and_from _ _ (and_from _ _ (and_parts _ _ ends).1 refl) refl
values_formed (domain.Words words) ends few =
    let n = length words in
    let short = is_between_at 1 most_words n few in
    and_from _ _ (and_from _ _ (some_words n short.0) (ascends-range 0 n)) (range_below 0 n most_words (omega (arith, short.1)))
  where
    some_words : (n : ℕ) → 1 ≤ n → IsTrue (not (is_empty (range_with_len 0 n)))
    some_words zero some = absurd (omega (arith, some))
    some_words (suc n) some = refl

-- what a test lets through is what it was
let_through : (b : Bool) (u d : Values) → Some d ≡ (if b then Some u else None) → u ≡ d
let_through true u d is = sym (same_Some d u is)
let_through false u d is = absurd (none-some d (sym is))

-- ---- ports

-- the greatest of few is few
greatest_few : (xs : List ℕ) (a : ℕ) → a ≤ 256 → ((k x : ℕ) → IsAt xs k x → x ≤ 256) → fold max a xs ≤ 256
greatest_few [] a few each = few
greatest_few (x ∷ xs) a few each =
    let first = each 0 x refl in greatest_few xs (max a x) (omega (arith, few, first)) (λ k. each (suc k))

-- what the types have under an id links few
under_few : (m : Model) → HasFew m → (kinds : List ℕ) (p k : ℕ) (q : PortAt) → IsAt (ports_under m kinds p) k q → q.high ≤ 256
under_few m few [] p k q at = absurd (none-some q at)
under_few m few (u ∷ us) p k q at = by (port_of m u p) refl k (λ k. under_few m few us p k q) at
  where
    by : (o : Option PortAt) → port_of m u p ≡ o → (k : ℕ) → ((k : ℕ) → IsAt (ports_under m us p) k q → q.high ≤ 256)
        → IsAt (cons_option o (ports_under m us p)) k q → q.high ≤ 256
    by None is k rest at = rest k at
    by (Some r) is zero rest at =
        let place = find_place (λ (r : PortAt). r.id == p) (ports_at m u) r is in
        subst (λ (q : PortAt). q.high ≤ 256) (same_Some r q at) (few.links u place.0 r place.1)
    by (Some r) is (suc k) rest at = rest k at

-- a port that requires nothing is one of a state
whole_links_port : (made : ℕ) (linkable : List ℕ) (qs : List PortAt) (q : PortState) → IsTrue (ascends linkable) → IsTrue (list_all (λ j. nat_lt j made) linkable)
    → ((k : ℕ) (r : PortAt) → IsAt qs k r → r.high ≤ 256) → Some q ≡ whole_links linkable qs → IsPortOf made q
whole_links_port made linkable [] q up below few is = absurd (none-some q (sym is))
whole_links_port made linkable (r ∷ rs) q up below few is =
    let highs = map (λ (r : PortAt). r.high) (r ∷ rs) in
    let high = fold max 0 highs in
    let most : high ≤ 256 = greatest_few highs 0 (omega arith) (λ k x at.
    let read = map_at (λ (r : PortAt). r.high) (r ∷ rs) k x at in subst (λ n. n ≤ 256) read.2 (few k read.0 read.1)) in
    let new : PortState = record { required = []; possible = linkable; fresh_low = 0; fresh_high = high } in
    let good : IsPortOf made new = record {
      formed = and_from _ _ (and_from _ _ up refl) (le-leb 0 high zero-le);
      to_made = below;
      few = le-leb high most_links (omega (arith, most));
    } in
    subst (IsPortOf made) (same_Some new q (sym is)) good

-- where a type has the port there are such links
whole_some : (linkable : List ℕ) (qs : List PortAt) (k : ℕ) (q : PortAt) → IsAt qs k q → IsTrue (is_some (whole_links linkable qs))
whole_some linkable [] k q at = absurd (none-some q at)
whole_some linkable (r ∷ rs) k q at = refl

-- a type that has the port has it under its id
pub port_there : (m : Model) (t p : ℕ) → IsTrue (has_port m t p) → (q : PortAt) × (port_of m t p ≡ Some q)
port_there m t p has = by (port_of m t p) refl
  where
    by : (o : Option PortAt) → port_of m t p ≡ o → (q : PortAt) × (port_of m t p ≡ Some q)
    by None is = absurd (false≢true (sym (any_found (λ (q : PortAt). q.id == p) (ports_at m t) ∙ ap is_some is) ∙ has))
    by (Some q) is = (q, is)

-- ---- a new instance

-- numbering keeps the length
pub numbered_long : {X : Type 0} (i : ℕ) (xs : List X) → length (enumerate_from i xs) ≡ length xs
numbered_long i [] = refl
numbered_long i (x ∷ xs) = ap suc (numbered_long (i + 1) xs)

module _ (m : Model) (kinds linkable : List ℕ) (made : ℕ) where
  abbrev new : MadeInstance
  new = new_instance m kinds linkable

  abbrev domain_entry : ℕ × AttrDecl → Option Values
  domain_entry e = if list_any (λ t. has_attribute m t e.0) kinds then Some (values_of e.1.domain) else None

  abbrev port_entry : ℕ → Option PortState
  port_entry p = whole_links linkable (ports_under m kinds p)

  domain_some : HasIds m → (a : ℕ) → IsTrue (list_any (λ t. has_attribute m t a) kinds) → IsTrue (is_some (domain_of new a))
  domain_some ids a any =
      let found = list_any_at (λ t. has_attribute m t a) kinds any in
      let within = ids.attributes_declared found.1 a found.3 in
      elim (slice_get_cases (first_attributes m) a).1 [
        | inr w ↦ absurd (omega (arith, within, w.0))
        | inl w ↦
            let row : IsAt (map domain_entry (enumerate_from 0 (first_attributes m))) a (domain_entry (0 + a, w.0)) =
            slice_get-map domain_entry (enumerate_from 0 (first_attributes m)) a ∙ ap (option_map domain_entry) (slice_get-enumerate_from 0 (first_attributes m) a w.0 w.2) in
            let passes : list_any (λ t. has_attribute m t (0 + a)) kinds ≡ true = ap (λ n. list_any (λ t. has_attribute m t n) kinds) (zero-add a) ∙ any in
            ap is_some (entry_at (map domain_entry (enumerate_from 0 (first_attributes m))) a (domain_entry (0 + a, w.0)) row
            ∙ ap (λ b. if b then Some (values_of w.0.domain) else None) passes)
      ]

  port_some : HasIds m → (p : ℕ) → IsTrue (list_any (λ t. has_port m t p) kinds) → IsTrue (is_some (port_of_made new p))
  port_some ids p any =
      let found = list_any_at (λ t. has_port m t p) kinds any in
      let n = length (first_ports m) in
      let within = ids.ports_declared found.1 p found.3 in
      let q = port_there m found.1 p found.3 in
      let among = among_ports m kinds p found.1 q.0 (at_has kinds found.0 found.1 found.2) q.1 in
      let row : IsAt (map port_entry (range_with_len 0 n)) p (port_entry p) =
      slice_get-map port_entry (range_with_len 0 n) p ∙ ap (option_map port_entry) (slice_get_range_with_len 0 n p within ∙ ap Some (zero-add p)) in
      ap is_some (entry_at (map port_entry (range_with_len 0 n)) p (port_entry p) row) ∙ whole_some linkable (ports_under m kinds p) among.0 q.0 among.1

  domain_good : IsValid m → (a : ℕ) (d : Values) → domain_of new a ≡ Some d → IsDomainOf m a d
  domain_good valid a d there =
      let entries = enumerate_from 0 (first_attributes m) in
      let read = map_read domain_entry entries a (Some d) (table_read (map domain_entry entries) a d there) in
      let stands = enumerated_at 0 (first_attributes m) a read.0 read.1 in
      let f = read.0.1 in
      let is : values_of f.domain ≡ d = let_through (list_any (λ t. has_attribute m t read.0.0) kinds) (values_of f.domain) d read.2 in
      let whole : whole_domain m a ≡ Some (values_of f.domain) = ap (λ o. option_map_or (λ (d : AttrDecl). Some (values_of d.domain)) o None) stands.1 in
      let formed = first_formed m valid a f stands.1 in
      subst (IsDomainOf m a) is (record {
        formed = values_formed f.domain formed.0 formed.1;
        form = sym (ap (λ o. option_map_or has_words o false) whole);
        whole = λ v has. ap (λ o. option_map_or (λ d. has_value d v) o false) whole ∙ has;
      })

  port_good : HasFew m → IsTrue (ascends linkable) → IsTrue (list_all (λ j. nat_lt j made) linkable)
      → (p : ℕ) (q : PortState) → port_of_made new p ≡ Some q → IsPortOf made q
  port_good few up below p q there =
      let entries = range_with_len 0 (length (first_ports m)) in
      let read = map_read port_entry entries p (Some q) (table_read (map port_entry entries) p q there) in
      whole_links_port made linkable (ports_under m kinds read.0) q up below (under_few m few kinds read.0) read.2

-- A new instance of the leaves under a type is one of a state.
pub new_is_made : (m : Model) → IsValid m → (t : ℕ) (linkable : List ℕ) (made : ℕ) → t < length m.types → IsTrue (ascends linkable)
    → IsTrue (list_all (λ j. nat_lt j made) linkable) → IsMadeOf m made (new_instance m (leaves_under m t) linkable)
new_is_made m valid t linkable made type up below =
    let kinds = leaves_under m t in
    let ids = valid_has_ids m valid in
    let few = valid_has_few m valid in
    let leaf = leaf_under m valid.declared.taxonomy.forest t type in
    record {
      formed = leaves_formed m (λ u. is_a m u t) few.types;
      each_attribute = length-map (enumerate_from 0 (first_attributes m)) (domain_entry m kinds linkable made) ∙ numbered_long 0 (first_attributes m);
      each_port = length-map (range_with_len 0 (length (first_ports m))) (port_entry m kinds linkable made) ∙ length-range_with_len 0 (length (first_ports m));
      some = some_from kinds leaf.0 (leaf_that m (λ u. is_a m u t) leaf.0 leaf.1 leaf.2);
      leaves = leaves_are m (λ u. is_a m u t);
      has_domains = domain_some m kinds linkable made ids;
      has_ports = port_some m kinds linkable made ids;
      domains = domain_good m kinds linkable made valid;
      ports = port_good m kinds linkable made few up below;
    }

-- the root type is one of the types
root_is_type : (m : Model) → IsValid m → m.root < length m.types
unfolding has_known_types
root_is_type m valid = grind (arith, valid.declared.known_types)

-- a model allows an instance
allows_one : (m : Model) → IsValid m → IsTrue (is_between 1 m.instances 1)
unfolding has_numbers_in_limits
allows_one m valid =
    let size = is_between_at 1 most_instances m.instances (and_parts _ _ (and_parts _ _ valid.declared.formed.numbers_in_limits).0).0 in
    is_between_from 1 m.instances 1 (omega arith, size.0)

pub root_is_state : RootIsState
unfolding root
root_is_state m valid = record {
  attribute_types = refl;
  port_types = refl;
  size = allows_one m valid;
  root = filter_passes (λ t. is_a m t m.root) (filter (is_leaf m) (type_numbers m.types));
  each = each;
}
  where
    new : IsMadeOf m 1 (new_instance m (leaves_under m m.root) (0 ∷ []))
    new = new_is_made m valid m.root (0 ∷ []) 1 (root_is_type m valid) refl refl

    each : (i : ℕ) (x : MadeInstance) → IsAt (new_instance m (leaves_under m m.root) (0 ∷ []) ∷ []) i x → IsMadeOf m 1 x
    each zero x at = subst (IsMadeOf m 1) (same_Some (new_instance m (leaves_under m m.root) (0 ∷ [])) x at) new
    each (suc i) x at = absurd (none-some x at)
