-- A valid model has few declarations, values and links, so a generation lowers the size.
use Rattle.std.proofs.Common.{◌≡◌, ℕ, zero, suc, ◌+◌, ◌≤◌, Bool, true, false, cond, ◌&&◌, List, [], ◌∷◌, length, refl, ap, ◌∙◌, subst, Some, None, Option, arith, leb-true, zero-le}
use Rattle.std.specs.Prelude.{IsTrue, slice_get, nat_le, int_le, neg_ℤ}
use Rattle.std.specs.Option.{option_map_or}
use Rattle.std.specs.List.{list_all, filter, sum_by, range_with_len}
use Rattle.std.proofs.lemmas.Int.{ints}
use Rattle.std.proofs.lemmas.Bool.{and_parts}
use Rattle.std.proofs.lemmas.List.Concat.{length-flat_map}
use Rattle.std.proofs.lemmas.List.Sums.{sum_by-cons, length-filter, count_by-le-length}
use Rattle.std.proofs.lemmas.List.FromFn.{length-range_with_len}
use Rattle.std.proofs.lemmas.Option.{none-some}
use Rattle.prod_model.specs.declared.model.Model.{Model}
use Rattle.prod_model.specs.declared.model.TypeDecl.{TypeDecl}
use Rattle.prod_model.specs.declared.model.AttrDecl.{AttrDecl}
use Rattle.prod_model.specs.declared.model.PortAt.{PortAt}
use Rattle.prod_model.specs.declared.model.Domain.{Domain}
use Rattle.prod_model.specs.declared.model.Domain.TheVariants as domain
use Rattle.prod_model.specs.Limits.{is_within, most_words, most_links, most_instances, farthest_end}
use Rattle.prod_model.specs.Forest.{type_numbers}
use Rattle.prod_model.specs.Taxonomy.{declarations_of, new_declarations, all_new_declarations, ports_at}
use Rattle.prod_model.specs.Valid.{IsValid, has_few_words, has_short_lists, has_ends, is_pair, has_numbers_in_limits}
use Rattle.prod_model.proofs.EntryLimits.{port_pairs}
use Rattle.prod_model.proofs.ShortLists.{formed_is_few}
use Rattle.base_laws.specs.Places.{IsAt}
use Rattle.base_laws.proofs.Tests.{list_all_at}
use Rattle.config_value.proofs.Places.{is_between_at}
use Rattle.domain_store.specs.declared.interval.Interval.{Interval}
use Rattle.state_space.specs.Values.{width, count_of}
use Rattle.state_space.specs.State.{first_attributes, values_of}
use Rattle.state_space.specs.Declared.{ValidHasFew}
use Rattle.state_space.specs.Laws.{GenerationIsLess, FittingIsLess}
use Rattle.state_space.proofs.SearchLaws.{in_flat}
use Rattle.state_space.proofs.GenerationSize.{generation_is_less_of_few, fitting_is_less_of_few}

-- ---- lists

-- what a filter leaves was there
filter_at : {X : Type 0} (test : X → Bool) (xs : List X) (k : ℕ) (x : X) → IsAt (filter test xs) k x → (j : ℕ) × IsAt xs j x
filter_at test [] k x at = absurd (none-some x at)
filter_at {X} test (y ∷ ys) k x at = by (test y) k at (filter_at test ys)
  where
    by : (b : Bool) (k : ℕ) → IsAt (cond b (y ∷ filter test ys) (filter test ys)) k x → ((k : ℕ) (x : X) → IsAt (filter test ys) k x → (j : ℕ) × IsAt ys j x)
        → (j : ℕ) × IsAt (y ∷ ys) j x
    by true zero at rest = (0, at)
    by true (suc k) at rest = let later = rest k x at in (suc later.0, later.1)
    by false k at rest = let later = rest k x at in (suc later.0, later.1)

filter_short : {X : Type 0} (test : X → Bool) (xs : List X) → length (filter test xs) ≤ length xs
filter_short test xs = let count = count_by-le-length test xs in omega (arith, length-filter test xs, count)

-- a sum over numbers is at most one over a list, where it is so at each place
ranged : {X : Type 0} (f : X → ℕ) (g : ℕ → ℕ) (a : ℕ) (xs : List X) → ((k : ℕ) (x : X) → IsAt xs k x → g (a + k) ≤ f x)
    → sum_by g (range_with_len a (length xs)) ≤ sum_by f xs
ranged f g a [] each = zero-le
ranged f g a (x ∷ xs) each =
    let here : a + 0 ≡ a = omega arith in
    let first : g a ≤ f x = subst (λ n. g n ≤ f x) here (each 0 x refl) in
    let rest = ranged f g (a + 1) xs (λ k y at. let next : a + suc k ≡ a + 1 + k = omega arith in subst (λ n. g n ≤ f y) next (each (suc k) y at)) in
    omega (arith, first, rest, sum_by-cons f x xs, sum_by-cons g a (range_with_len (a + 1) (length xs)))

-- ---- declarations

module _ {D : Type 0} (declared : TypeDecl → List D) (name_of : D → List ℕ) (types : List TypeDecl) where
  -- a declaration of a type stands at the type
  declared_at : (t j : ℕ) (d : D) → IsAt (declarations_of declared name_of types t) j d → (x : TypeDecl) × IsAt types t x × IsAt (declared x) j d
  declared_at t j d at = by (slice_get types t) refl at
    where
      by : (o : Option TypeDecl) → slice_get types t ≡ o → IsAt (option_map_or declared o []) j d → (x : TypeDecl) × IsAt types t x × IsAt (declared x) j d
      by None is at = absurd (none-some d at)
      by (Some x) is at = (x, is, at)

  -- so does a new one
  new_at : (t j : ℕ) (d : D) → IsAt (new_declarations declared name_of types t) j d → (k : ℕ) × (x : TypeDecl) × IsAt types t x × IsAt (declared x) k d
  new_at t j d at =
      let there = filter_at _ (declarations_of declared name_of types t) j d at in
      let found = declared_at t there.0 d there.1 in
      (there.0, found.0, found.1, found.2)

  -- there are no more new declarations than declarations
  new_short : length (all_new_declarations declared name_of types) ≤ sum_by (λ d. length (declared d)) types
  new_short =
      let new = new_declarations declared name_of types in
      let sum = ranged (λ d. length (declared d)) (λ t. length (new t)) 0 types (λ k x at. shorter k x at) in
      omega (arith, sum, length-flat_map new (type_numbers types))
    where
      shorter : (k : ℕ) (x : TypeDecl) → IsAt types k x → length (new_declarations declared name_of types (0 + k)) ≤ length (declared x)
      shorter k x at =
          let zero_first : 0 + k ≡ k = omega arith in
          let here : declarations_of declared name_of types (0 + k) ≡ declared x = ap (λ n. declarations_of declared name_of types n) zero_first ∙ ap (λ o. option_map_or declared o []) at in
          let filtered : length (new_declarations declared name_of types (0 + k)) ≤ length (declarations_of declared name_of types (0 + k)) = filter_short _ (declarations_of declared name_of types (0 + k)) in
          let same : length (declarations_of declared name_of types (0 + k)) ≡ length (declared x) = ap length here in
          omega (arith, filtered, same)

-- ---- values

few_values : (d : Domain) → IsTrue (has_ends d) → IsTrue (has_few_words d) → count_of (values_of d) ≤ 2000001
few_values (domain.Range low high) ends words =
    let outer = and_parts (is_within farthest_end low && is_within farthest_end high) (int_le low high) ends in
    let both = and_parts (is_within farthest_end low) (is_within farthest_end high) outer.0 in
    let a = and_parts (int_le (neg_ℤ farthest_end) low) (int_le low farthest_end) both.0 in
    let b = and_parts (int_le (neg_ℤ farthest_end) high) (int_le high farthest_end) both.1 in
    let r : Interval = record { low = low; high = high } in
    let sum = sum_by-cons width r [] in
    let short : width r ≤ 2000001 = grind (arith, ints, a.0, a.1, b.0, b.1, outer.1) in
    omega (arith, short, sum)
few_values (domain.Words words) ends few =
    let short = (is_between_at 1 most_words (length words) few).1 in
    omega (arith, short, length-range_with_len 0 (length words))

-- ---- a valid model

module _ (m : Model) (valid : IsValid m) where
  lists : IsTrue (has_short_lists m)
  lists = valid.declared.formed.short_lists

  numbers : IsTrue (has_numbers_in_limits m)
  numbers = valid.declared.formed.numbers_in_limits

  -- a first declaration has its ends in order, or few words
  pub first_formed : (k : ℕ) (d : AttrDecl) → IsAt (first_attributes m) k d → IsTrue (has_ends d.domain) × IsTrue (has_few_words d.domain)
  unfolding has_numbers_in_limits has_short_lists
  first_formed k d at =
      let flat = in_flat (new_declarations (λ d. d.attributes) (λ d. d.name) m.types) (type_numbers m.types) k d at in
      let found = new_at (λ d. d.attributes) (λ d. d.name) m.types flat.1 flat.2 d flat.4 in
      let each = list_all_at (λ d. list_all (λ a. has_ends a.domain) d.attributes && list_all (λ p. is_pair p.low p.high) d.ports) m.types (and_parts _ _ numbers).1 flat.1 found.1 found.2 in
      let ends = list_all_at (λ a. has_ends a.domain) found.1.attributes (and_parts _ _ each).0 found.0 d found.3 in
      let words = list_all_at (λ d. list_all (λ a. has_few_words a.domain) d.attributes) m.types (and_parts _ _ lists).1 flat.1 found.1 found.2 in
      (ends, list_all_at (λ a. has_few_words a.domain) found.1.attributes words found.0 d found.3)

  attribute_few : (k : ℕ) (d : AttrDecl) → IsAt (first_attributes m) k d → count_of (values_of d.domain) ≤ 2000001
  attribute_few k d at = let formed = first_formed k d at in few_values d.domain formed.0 formed.1

  links_few : (t k : ℕ) (p : PortAt) → IsAt (ports_at m t) k p → p.high ≤ 256
  links_few t k p at =
      let few = leb-true p.high most_links (and_parts (nat_le p.low p.high) (nat_le p.high most_links) (port_pairs m valid.declared t k p at)).1 in
      omega (arith, few)

pub valid_has_few : ValidHasFew
unfolding has_numbers_in_limits
valid_has_few m valid =
    let few = formed_is_few m valid.declared.formed in
    let size = is_between_at 1 most_instances m.instances (and_parts _ _ (and_parts _ _ (numbers m valid)).0).0 in
    record {
      attributes = let short = new_short (λ d. d.attributes) (λ d. d.name) m.types in omega (arith, short, few.attributes);
      ports = let short = new_short (λ d. d.ports) (λ d. d.name) m.types in omega (arith, short, few.ports);
      values = attribute_few m valid;
      links = links_few m valid;
      types = few.types;
      instances = omega (arith, size.1);
    }

pub generation_is_less : GenerationIsLess
generation_is_less m s valid = generation_is_less_of_few m s (valid_has_few m valid)

pub fitting_is_less : FittingIsLess
fitting_is_less m l old new valid = fitting_is_less_of_few m l old new (valid_has_few m valid)
