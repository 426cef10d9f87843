-- What is seen of counts and sums fits, in a shaped configuration.
use Rattle.std.proofs.Common.{◌≡◌, ℕ, zero, suc, ◌-◌, ◌≤◌, ◌<◌, ◌==◌, ℤ, pos, ◌+ℤ◌, ◌≤ℤ◌, Bool, true, false, ◌||◌, cond, List, [], ◌∷◌, map, length, drop, get_or, Option, Some, None, refl, sym, ap, ◌∙◌, subst, arith}
use Rattle.std.specs.Prelude.{IsTrue, nat_le, nat_lt, slice_get, slice_index_or}
use Rattle.std.specs.Option.{option_map_or}
use Rattle.std.specs.List.{filter, position}
use Rattle.std.proofs.Math.Path.{fun_ext}
use Rattle.std.proofs.lemmas.Bool.{false≢true}
use Rattle.std.proofs.lemmas.Bool.Decides.{nat_tests}
use Rattle.std.proofs.lemmas.Int.{ints}
use Rattle.std.proofs.lemmas.List.{length-map}
use Rattle.std.proofs.lemmas.List.Sums.{length-filter, count_by-le-length}
use Rattle.std.proofs.lemmas.Option.{none-some, slice_get-get_or}
use Rattle.prod_model.specs.declared.model.Model.{Model}
use Rattle.prod_model.specs.declared.model.PortAt.{PortAt}
use Rattle.prod_model.specs.declared.model.PortKind.TheVariants.{Shared}
use Rattle.prod_model.specs.Taxonomy.{ports_at}
use Rattle.config_value.specs.declared.configuration.Instance.{Instance}
use Rattle.config_value.specs.Value.{links_of, links_at_instance, under, is_under, at_instance}
use Rattle.prod_model.specs.ExprBounds.{sum_of}
use Rattle.base_laws.specs.Places.{IsAt}
use Rattle.config_value.specs.ShapedSentences.{HasShape}
use Rattle.base_laws.proofs.Places.{map_at, filter_at}
use Rattle.config_value.proofs.IntSums.{sum_filtered}
use Rattle.config_value.specs.declared.literal.Literal.TheVariants as literal
use Rattle.state_space.specs.Sets.{has_number}
use Rattle.config_value.specs.Literals.{count_from}
use Rattle.state_space.specs.State.{State, number_made}
use Rattle.state_values.specs.Sights.{made_numbers, port_state}
use Rattle.state_values.specs.Tallies.{Share, tally}
use Rattle.state_values.specs.Fits.{HoldAll, FitsRange, FitsTruth}
use Rattle.state_values.specs.Sights.{fresh_rest, unmade_rest}
use Rattle.state_values.proofs.RangeLaws.{sum_cons}
use Rattle.state_values.proofs.TallyLaws.{FitsCounted, FitsRest, fits_tally}
use Rattle.state_values.proofs.LinkSums.{IsAscending, upto, upto_suc, sum_links}
use Rattle.state_values.proofs.LiteralLaws.{Has, only, has_fresh_at_most, has_fresh_at_least}

-- ---- lists

-- what is among the links stands at a place
pub among_at : (ls : List ℕ) (j : ℕ) → IsTrue (has_number ls j) → (k : ℕ) × IsAt ls k j
among_at [] j among = absurd (false≢true among)
among_at (l ∷ ls) j among = by (l == j) refl (among_at ls j) among
  where
    by : (t : Bool) → (l == j) ≡ t → (IsTrue (has_number ls j) → (k : ℕ) × IsAt ls k j) → IsTrue (t || has_number ls j) → (k : ℕ) × IsAt (l ∷ ls) k j
    by true is rest among = let same : l ≡ j = grind (arith, nat_tests) in (0, ap Some same)
    by false is rest among = let found = rest among in (suc found.0, found.1)

-- past the end
beyond : {A : Type 0} (xs : List A) (k : ℕ) (d : A) → length xs ≤ k → get_or xs k d ≡ d
beyond [] k d past = refl
beyond (x ∷ xs) zero d past = absurd (omega (arith, past))
beyond (x ∷ xs) (suc k) d past = beyond xs k d (omega (arith, past))

none_ascend : IsAscending []
none_ascend k i j first next = absurd (none-some i first)

-- the sum of ones is the length, and of ones where a test passes the count
pub sum_ones : {X : Type 0} (xs : List X) → sum_of (map (λ x. pos 1) xs) ≡ pos (length xs)
sum_ones [] = refl
sum_ones (x ∷ xs) = let rest = sum_ones xs in omega (arith, ints, rest, sum_cons (pos 1) (map (λ x. pos 1) xs))

pub sum_tests : {X : Type 0} (p : X → Bool) (xs : List X) → sum_of (map (λ x. cond (p x) (pos 1) (pos 0)) xs) ≡ pos (length (filter p xs))
sum_tests p [] = refl
sum_tests p (x ∷ xs) = sum_cons (cond (p x) (pos 1) (pos 0)) (map (λ x. cond (p x) (pos 1) (pos 0)) xs) ∙ by (p x) (sum_tests p xs)
  where
    by : (t : Bool) → sum_of (map (λ x. cond (p x) (pos 1) (pos 0)) xs) ≡ pos (length (filter p xs))
        → (cond t (pos 1) (pos 0) +ℤ sum_of (map (λ x. cond (p x) (pos 1) (pos 0)) xs)) ≡ pos (length (cond t (x ∷ filter p xs) (filter p xs)))
    by true rest = omega (arith, ints, rest)
    by false rest = omega (arith, ints, rest)

-- ---- links of a shaped configuration ascend

module _ (m : Model) (c : List Instance) (s : HasShape m c) where
  any_port : PortAt
  any_port = record { id = 0; kind = Shared; target = 0; low = 0; high = 0; inverse = None }

  place_ascends : (i : ℕ) (x : Instance) → IsAt c i x → (k : ℕ) → IsAscending (get_or x.links k [])
  place_ascends i x at k = by (nat_lt k (length x.links)) refl
    where
      by : (t : Bool) → nat_lt k (length x.links) ≡ t → IsAscending (get_or x.links k [])
      by true is =
          let within : k < length x.links = grind (arith, nat_tests) in
          let there : IsAt x.links k (get_or x.links k []) = slice_get-get_or x.links k [] within in
          let port : IsAt (ports_at m x.kind) k (get_or (ports_at m x.kind) k any_port) = slice_get-get_or (ports_at m x.kind) k any_port (omega (arith, within, (s.built i x at).each_port)) in
          (s.links i k x (get_or (ports_at m x.kind) k any_port) (get_or x.links k []) at port there).ascending
      by false is = subst IsAscending (sym (beyond x.links k [] (grind (arith, nat_tests)))) none_ascend

  pub links_ascend : (i p : ℕ) → IsAscending (links_at_instance m c p i)
  links_ascend i p = by (slice_get c i) refl
    where
      by_place : (x : Instance) → IsAt c i x → (o : Option ℕ) → IsAscending (option_map_or (λ k. slice_index_or x.links k []) o [])
      by_place x at None = none_ascend
      by_place x at (Some k) = place_ascends i x at k

      by : (o : Option Instance) → slice_get c i ≡ o → IsAscending (option_map_or (λ x. links_of m x p) o [])
      by None is = none_ascend
      by (Some x) is = by_place x is (position (λ q. q.id == p) (ports_at m x.kind))

  -- ---- sums over the links of a port

  module _ (st : State) (i p : ℕ) (low high : ℤ) (v : ℕ → ℤ) (within : (k j : ℕ) → IsAt (links_at_instance m c p i) k j → (low ≤ℤ v j) × (v j ≤ℤ high)) where
    abbrev links : List ℕ
    links = links_at_instance m c p i

    abbrev fresh : List ℕ
    fresh = filter (nat_le (number_made st)) links

    many_fresh : length (map v fresh) ≡ count_from (number_made st) links
    many_fresh = length-map fresh v ∙ length-filter (nat_le (number_made st)) links

    each_fresh : (k : ℕ) (n : ℤ) → IsAt (map v fresh) k n → (low ≤ℤ n) × (n ≤ℤ high)
    each_fresh k n at =
        let link = map_at v fresh k n at in
        let there = filter_at (nat_le (number_made st)) links k link.0 link.1 in
        subst (λ n. (low ≤ℤ n) × (n ≤ℤ high)) link.2 (within there.0 link.0 there.1)

    fits_fresh_rest : FitsRest (Has m c) (fresh_rest st i p low high) (map v fresh)
    fits_fresh_rest = record {
      more = by ((port_state st i p).fresh_low == 0) refl;
      fewer = λ all. let few = has_fresh_at_most m c i p (number_made st) (port_state st i p).fresh_high (only (Has m c) (literal.FreshAtMost i p (number_made st) (port_state st i p).fresh_high) [] all) in
          omega (arith, few, many_fresh);
      low = λ k n at. (each_fresh k n at).0;
      high = λ k n at. (each_fresh k n at).1;
    }
      where
        by : (t : Bool) → ((port_state st i p).fresh_low == 0) ≡ t
            → HoldAll (Has m c) (cond t [] (literal.FreshAtLeast i p (number_made st) (port_state st i p).fresh_low ∷ [])) → (port_state st i p).fresh_low ≤ length (map v fresh)
        by true is all = let none : (port_state st i p).fresh_low ≡ 0 = grind (arith, nat_tests) in omega (arith, none)
        by false is all =
            let many = has_fresh_at_least m c i p (number_made st) (port_state st i p).fresh_low (only (Has m c) (literal.FreshAtLeast i p (number_made st) (port_state st i p).fresh_low) [] all) in
            omega (arith, many, many_fresh)

    -- what made instances and the fresh links add
    pub fits_links : (share : ℕ → Share) → ((j : ℕ) → FitsTruth (Has m c) (share j).counted (has_number links j))
        → ((j : ℕ) → IsTrue (has_number links j) → FitsCounted (Has m c) (share j) (v j))
        → FitsRange (Has m c) (tally (map share (made_numbers st)) (fresh_rest st i p low high)) (sum_of (map v links))
    fits_links share counted fits =
        subst (FitsRange (Has m c) (tally (map share (made_numbers st)) (fresh_rest st i p low high))) (sum_links v (number_made st) links (links_ascend i p))
        (fits_tally (Has m c) share (has_number links) v (made_numbers st) (fresh_rest st i p low high) (map v fresh) (λ k j at. counted j) (λ k j at. fits j) fits_fresh_rest)

-- ---- sums over all instances

opt_next : {X : Type 0} (f : X → ℤ) (xs : List X) (k : ℕ) → sum_of (map f (drop k xs)) ≡ (option_map_or f (slice_get xs k) (pos 0) +ℤ sum_of (map f (drop (suc k) xs)))
opt_next f [] zero = refl
opt_next f [] (suc k) = refl
opt_next f (x ∷ xs) zero = sum_cons (f x) (map f xs)
opt_next f (x ∷ xs) (suc k) = opt_next f xs k

-- the sum over a list is that over its first places, and over the rest
pub sum_places : {X : Type 0} (f : X → ℤ) (xs : List X) (k : ℕ) → (upto (λ j. option_map_or f (slice_get xs j) (pos 0)) k +ℤ sum_of (map f (drop k xs))) ≡ sum_of (map f xs)
sum_places f xs zero = omega (arith, ints)
sum_places f xs (suc k) =
    let rest = sum_places f xs k in
    let next = opt_next f xs k in
    let step = upto_suc (λ j. option_map_or f (slice_get xs j) (pos 0)) k in
    omega (arith, ints, rest, next, step)

drop_at : {A : Type 0} (xs : List A) (n k : ℕ) (x : A) → IsAt (drop n xs) k x → (j : ℕ) × IsAt xs j x
drop_at xs zero k x at = (k, at)
drop_at [] (suc n) k x at = absurd (none-some x at)
drop_at (y ∷ xs) (suc n) k x at = let found = drop_at xs n k x at in (suc found.0, found.1)

few_dropped : {A : Type 0} (xs : List A) (n : ℕ) → length (drop n xs) ≡ length xs - n
few_dropped xs zero = omega arith
few_dropped [] (suc n) = omega arith
few_dropped (x ∷ xs) (suc n) = let rest = few_dropped xs n in omega (arith, rest)

module _ (m : Model) (c : List Instance) (s : HasShape m c) (st : State) (u : ℕ) (low high : ℤ) (g : Instance → ℤ)
    (within : (k : ℕ) (x : Instance) → IsAt c k x → IsTrue (under m u x) → (low ≤ℤ g x) × (g x ≤ℤ high)) where
  abbrev unmade : List Instance
  unmade = filter (under m u) (drop (number_made st) c)

  each_unmade : (k : ℕ) (n : ℤ) → IsAt (map g unmade) k n → (low ≤ℤ n) × (n ≤ℤ high)
  each_unmade k n at =
      let instance = map_at g unmade k n at in
      let there = filter_at (under m u) (drop (number_made st) c) k instance.0 instance.1 in
      let of_all = drop_at c (number_made st) there.0 instance.0 there.1 in
      subst (λ n. (low ≤ℤ n) × (n ≤ℤ high)) instance.2 (within of_all.0 instance.0 of_all.1 there.2)

  few_unmade : length (map g unmade) ≤ m.instances - number_made st
  few_unmade =
      let mapped = length-map unmade g in
      let filtered = length-filter (under m u) (drop (number_made st) c) in
      let counted = count_by-le-length (under m u) (drop (number_made st) c) in
      let dropped = few_dropped c (number_made st) in
      let size = s.size.1 in
      omega (arith, mapped, filtered, counted, dropped, size)

  fits_unmade_rest : FitsRest (Has m c) (unmade_rest m st low high) (map g unmade)
  fits_unmade_rest = record {
    more = λ all. omega arith;
    fewer = λ all. few_unmade;
    low = λ k n at. (each_unmade k n at).0;
    high = λ k n at. (each_unmade k n at).1;
  }

  abbrev at_number : ℕ → ℤ
  at_number j = at_instance c g (pos 0) j

  counted_at : (j : ℕ) → cond (is_under m c u j) (at_number j) (pos 0) ≡ option_map_or (λ x. cond (under m u x) (g x) (pos 0)) (slice_get c j) (pos 0)
  counted_at j = by (slice_get c j)
    where
      by : (o : Option Instance) → cond (option_map_or (under m u) o false) (option_map_or g o (pos 0)) (pos 0) ≡ option_map_or (λ x. cond (under m u x) (g x) (pos 0)) o (pos 0)
      by None = refl
      by (Some x) = refl

  all_counted : (upto (λ j. cond (is_under m c u j) (at_number j) (pos 0)) (number_made st) +ℤ sum_of (map g unmade)) ≡ sum_of (map g (filter (under m u) c))
  all_counted =
      ap (λ f. upto f (number_made st) +ℤ sum_of (map g unmade)) (fun_ext counted_at)
      ∙ ap (λ n. upto (λ j. option_map_or (λ x. cond (under m u x) (g x) (pos 0)) (slice_get c j) (pos 0)) (number_made st) +ℤ n) (sum_filtered (under m u) g (drop (number_made st) c))
      ∙ sum_places (λ x. cond (under m u x) (g x) (pos 0)) c (number_made st)
      ∙ sym (sum_filtered (under m u) g c)

  -- what made instances and those not made yet add
  pub fits_instances : (share : ℕ → Share) → ((j : ℕ) → FitsTruth (Has m c) (share j).counted (is_under m c u j))
      → ((j : ℕ) → IsTrue (is_under m c u j) → FitsCounted (Has m c) (share j) (at_number j))
      → FitsRange (Has m c) (tally (map share (made_numbers st)) (unmade_rest m st low high)) (sum_of (map g (filter (under m u) c)))
  fits_instances share counted fits =
      subst (FitsRange (Has m c) (tally (map share (made_numbers st)) (unmade_rest m st low high))) all_counted
      (fits_tally (Has m c) share (is_under m c u) at_number (made_numbers st) (unmade_rest m st low high) (map g unmade) (λ k j at. counted j) (λ k j at. fits j) fits_unmade_rest)
