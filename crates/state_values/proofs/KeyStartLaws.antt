-- The key of a covered configuration is never before the key start: as long as the start goes on,
-- the two are the same, or the start is less at some place.
use Rattle.std.proofs.Common.{◌≡◌, ◌≢◌, ℕ, zero, suc, ◌+◌, ◌≤◌, ℤ, pos, ◌≤ℤ◌, ◌<ℤ◌, List, [], ◌∷◌, ◌++◌, map, length, refl, ap, sym, ◌∙◌, subst, inl, inr, Option, Some, None, Bool, true, false, arith, append_assoc, int_cmp, get_or}
use Rattle.std.specs.Prelude.{IsTrue, slice_index_or, if◌then◌else◌, ◌==◌}
use Rattle.std.specs.Option.{option_map_or, option_and_then}
use Rattle.std.specs.List.{flat_map, range_with_len}
use Rattle.std.specs.declared.cmp.Ordering.{Ordering}
use Rattle.std.specs.declared.cmp.Ordering.TheVariants.{Less, Equal, Greater}
use Rattle.std.specs.Ordering.{ordering_then, ordering_reverse, MatchOrdering}
use Rattle.std.specs.Cmp.{int_ranks, IsTotalOrder}
use Rattle.std.proofs.lemmas.Cmp.{int_cmp_total, lists_total}
use Rattle.std.specs.Cmp.Lexicographic.{slice_cmp}
use Rattle.std.proofs.lemmas.Bool.{and_parts, or_cases, eqb-true, eq-eqb, false≢true}
use Rattle.std.proofs.lemmas.Int.{ints}
use Rattle.std.proofs.lemmas.Option.{same_Some, get_or_from_slice_get, slice_get-get_or}
use Rattle.base_laws.specs.Places.{IsAt}
use Rattle.base_laws.proofs.Tests.{list_all_at, list_any_from}
use Rattle.prod_model.specs.declared.model.Model.{Model}
use Rattle.prod_model.specs.declared.model.AttrAt.{AttrAt}
use Rattle.prod_model.specs.declared.model.PortAt.{PortAt}
use Rattle.prod_model.specs.Taxonomy.{attributes_at, ports_at}
use Rattle.config_value.specs.declared.configuration.Instance.{Instance}
use Rattle.config_value.specs.Shaped.{ascends, has_leaf_types}
use Rattle.config_value.specs.ShapedSentences.{IsBuilt}
use Rattle.config_value.specs.Spelled.{is_spelled}
use Rattle.config_value.specs.Rank.{port_key, instance_key, key}
use Rattle.config_value.specs.Value.{value_of, links_of}
use Rattle.config_value.proofs.ShapedParts.{is_built, is_built_at}
use Rattle.state_space.specs.Sets.{has_number}
use Rattle.state_space.specs.Values.{Values, has_value, least}
use Rattle.state_space.specs.Ports.{PortState, allows, parted}
use Rattle.state_space.specs.Made.{MadeInstance, domain_of, port_of_made}
use Rattle.state_space.specs.State.{State, IsState, number_made, kinds_at, domain_at, port_at, low_at}
use Rattle.state_space.specs.Whole.{is_settled_port}
use Rattle.state_space.specs.Covers.{Covers, has_value_under}
use Rattle.state_space.specs.Declared.{HasIds}
use Rattle.state_space.proofs.ValidLaws.{valid_has_ids}
use Rattle.state_space.proofs.ValuesLaws.{least-le}
use Rattle.state_space.proofs.PortLaws.{below_rest}
use Rattle.state_space.proofs.WholeLaws.{position_here, only_links}
use Rattle.state_space.proofs.EntailsLaws.{IsCoveredAt, covered_at}
use Rattle.state_values.specs.KeyStart.{ports_start, instance_start, instances_start, key_start, KeyStartHolds, KeyStartDecides}

-- ---- lists of which one is not after the other

abbrev pub IsNotAfter : List ℤ → List ℤ → Type 0
IsNotAfter xs ys = slice_cmp int_cmp xs ys ≢ Greater

none_first : (ys : List ℤ) → IsNotAfter [] ys
none_first [] is = absurd cc
none_first (y ∷ ys) is = absurd cc

-- a number that is at most another, before lists of which one is not after the other
at_most_first : (x y : ℤ) (xs ys : List ℤ) → x ≤ℤ y → IsNotAfter xs ys → IsNotAfter (x ∷ xs) (y ∷ ys)
at_most_first x y xs ys most rest = by (int_cmp x y) (int_ranks x y)
  where
    by : (r : Ordering) → MatchOrdering r (x <ℤ y) (x ≡ y) (y <ℤ x) → ordering_then r (slice_cmp int_cmp xs ys) ≢ Greater
    by Less below = λ is. absurd cc
    by Equal same = rest
    by Greater above = absurd (omega (arith, ints, above, most))

-- the same numbers before them
same_front : (zs xs ys : List ℤ) → IsNotAfter xs ys → IsNotAfter (zs ++ xs) (zs ++ ys)
same_front [] xs ys rest = rest
same_front (z ∷ zs) xs ys rest = at_most_first z z (zs ++ xs) (zs ++ ys) (omega (arith, ints)) (same_front zs xs ys rest)

-- numbers that are at most others, each in its place, before them
at_most_front : {A : Type 0} (f : A → ℤ) (es : List A) (vs xs ys : List ℤ) → length vs ≡ length es
    → ((k : ℕ) (a : A) (v : ℤ) → IsAt es k a → IsAt vs k v → f a ≤ℤ v) → IsNotAfter xs ys → IsNotAfter (map f es ++ xs) (vs ++ ys)
at_most_front f [] [] xs ys long most rest = rest
at_most_front f [] (v ∷ vs) xs ys long most rest = absurd cc
at_most_front f (e ∷ es) [] xs ys long most rest = absurd cc
at_most_front f (e ∷ es) (v ∷ vs) xs ys long most rest =
    at_most_first (f e) v (map f es ++ xs) (vs ++ ys) (most 0 e v refl refl)
    (at_most_front f es vs xs ys (omega (arith, long)) (λ k. most (suc k)) rest)

-- ---- ports

-- where the links of settled ports are the required ones
ports_hold : (s : State) (i : ℕ) (later rest : List ℤ) (ps : List PortAt) (ls : List (List ℕ)) → length ls ≡ length ps
    → ((k : ℕ) (p : PortAt) (l : List ℕ) → IsAt ps k p → IsAt ls k l → (q : PortState) → port_at s i p.id ≡ Some q → IsTrue (is_settled_port q) → l ≡ q.required)
    → IsNotAfter later rest → IsNotAfter (ports_start s i later ps) (flat_map port_key ls ++ rest)
ports_hold s i later rest [] [] long each more = more
ports_hold s i later rest [] (l ∷ ls) long each more = absurd cc
ports_hold s i later rest (p ∷ ps) [] long each more = absurd cc
ports_hold s i later rest (p ∷ ps) (l ∷ ls) long each more =
    by (port_at s i p.id) refl (ports_hold s i later rest ps ls (omega (arith, long)) (λ k. each (suc k)) more)
  where
    of : (q : PortState) → port_at s i p.id ≡ Some q → (b : Bool) → is_settled_port q ≡ b → IsNotAfter (ports_start s i later ps) (flat_map port_key ls ++ rest)
        → IsNotAfter (if b then port_key q.required ++ ports_start s i later ps else []) ((port_key l ++ flat_map port_key ls) ++ rest)
    of q is false unsettled others = none_first ((port_key l ++ flat_map port_key ls) ++ rest)
    of q is true settled others =
        subst (λ ys. IsNotAfter (port_key q.required ++ ports_start s i later ps) ys)
        (ap (λ r. port_key r ++ (flat_map port_key ls ++ rest)) (sym (each 0 p l refl refl q is settled))
        ∙ sym (append_assoc (port_key l) (flat_map port_key ls) rest))
        (same_front (port_key q.required) (ports_start s i later ps) (flat_map port_key ls ++ rest) others)

    by : (o : Option PortState) → port_at s i p.id ≡ o → IsNotAfter (ports_start s i later ps) (flat_map port_key ls ++ rest)
        → IsNotAfter (option_map_or (λ q. if is_settled_port q then port_key q.required ++ ports_start s i later ps else []) o []) ((port_key l ++ flat_map port_key ls) ++ rest)
    by None is others = none_first ((port_key l ++ flat_map port_key ls) ++ rest)
    by (Some q) is others = of q is (is_settled_port q) refl others

-- ---- instances

module _ (m : Model) (s : State) (c : List Instance) (ids : HasIds m) (h : Covers m s c) where
  -- an instance is of a leaf type, and has as many values and ports as that type
  built_at : (i : ℕ) (y : Instance) → IsAt c i y → IsBuilt m y
  unfolding is_spelled has_leaf_types
  built_at i y at = is_built_at m y (list_all_at (is_built m) c (and_parts _ _ (and_parts _ _ h.spelled).0).1 i y at)

  module _ (i : ℕ) (x : MadeInstance) (y : Instance) (is : IsCoveredAt m s c i x y) where
    -- the least value is at most the value at the place of the attribute
    least_at_most : (k : ℕ) (a : AttrAt) (v : ℤ) → IsAt (attributes_at m y.kind) k a → IsAt y.values k v → low_at s i a.id ≤ℤ v
    least_at_most k a v entry there = subst (λ o. option_map_or least o (pos 0) ≤ℤ v) (sym read) (by (domain_of x a.id) refl in_domain)
      where
        read : domain_at s i a.id ≡ domain_of x a.id
        read = ap (option_and_then (λ (x : MadeInstance). domain_of x a.id)) is.made

        value : value_of m y a.id ≡ v
        value =
            ap (λ o. option_map_or (λ k. slice_index_or y.values k (pos 0)) o (pos 0)) (position_here (λ (a : AttrAt). a.id) (attributes_at m y.kind) (ids.attributes_apart y.kind) k a entry)
            ∙ get_or_from_slice_get y.values k v (pos 0) there

        in_domain : IsTrue (has_value_under x a.id v)
        in_domain =
            subst (λ v. IsTrue (has_value_under x a.id v)) value
            (is.covered.values a.id (list_any_from (λ (b : AttrAt). b.id == a.id) (attributes_at m y.kind) k a entry (eq-eqb a.id a.id refl)))

        by : (o : Option Values) → domain_of x a.id ≡ o → IsTrue (option_map_or (λ d. has_value d v) o false) → option_map_or least o (pos 0) ≤ℤ v
        by None none has = absurd (false≢true has)
        by (Some d) told has = let most = least-le d v (is.is_made.domains a.id d told).formed has in grind (arith, ints, most)

    -- a settled port has the required links
    links_required : (k : ℕ) (p : PortAt) (l : List ℕ) → IsAt (ports_at m y.kind) k p → IsAt y.links k l
        → (q : PortState) → port_at s i p.id ≡ Some q → IsTrue (is_settled_port q) → l ≡ q.required
    links_required k p l entry there q told settled =
        sym links ∙ only_links (number_made s) q (links_of m y p.id) (is.is_made.ports p.id q port).formed (is.ascend p.id) settled allowed
      where
        port : port_of_made x p.id ≡ Some q
        port = sym (ap (option_and_then (λ (x : MadeInstance). port_of_made x p.id)) is.made) ∙ told

        links : links_of m y p.id ≡ l
        links =
            ap (λ o. option_map_or (λ k. slice_index_or y.links k []) o []) (position_here (λ (p : PortAt). p.id) (ports_at m y.kind) (ids.ports_apart y.kind) k p entry)
            ∙ get_or_from_slice_get y.links k l [] there

        allowed : IsTrue (allows q (parted (number_made s) (links_of m y p.id)))
        allowed =
            subst (λ o. IsTrue (option_map_or (λ q. allows q (parted (number_made s) (links_of m y p.id))) o false)) port
            (is.covered.links p.id (list_any_from (λ (q : PortAt). q.id == p.id) (ports_at m y.kind) k p entry (eq-eqb p.id p.id refl)))

    -- what an instance of one type starts with
    sole_holds : (later rest : List ℤ) → IsNotAfter later rest
        → IsNotAfter (pos y.kind ∷ (map (λ (a : AttrAt). low_at s i a.id) (attributes_at m y.kind) ++ ports_start s i later (ports_at m y.kind))) (instance_key y ++ rest)
    sole_holds later rest more =
        let built = built_at i y is.there in
        let start = map (λ (a : AttrAt). low_at s i a.id) (attributes_at m y.kind) ++ ports_start s i later (ports_at m y.kind) in
        let ports = ports_hold s i later rest (ports_at m y.kind) y.links built.each_port links_required more in
        let values = at_most_front (λ (a : AttrAt). low_at s i a.id) (attributes_at m y.kind) y.values (ports_start s i later (ports_at m y.kind)) (flat_map port_key y.links ++ rest)
        built.each_attribute least_at_most ports in
        subst (λ ys. IsNotAfter (pos y.kind ∷ start) (pos y.kind ∷ ys)) (sym (append_assoc y.values (flat_map port_key y.links) rest))
        (at_most_first (pos y.kind) (pos y.kind) start (y.values ++ (flat_map port_key y.links ++ rest)) (omega (arith, ints)) values)

    instance_holds : (later rest : List ℤ) → IsNotAfter later rest → IsNotAfter (instance_start m s i later (kinds_at s i)) (instance_key y ++ rest)
    instance_holds later rest more =
        subst (λ ks. IsNotAfter (instance_start m s i later ks) (instance_key y ++ rest)) (sym (ap (λ o. option_map_or (λ (x : MadeInstance). x.kinds) o []) is.made))
        (by x.kinds (and_parts _ _ is.is_made.formed).0 is.covered.kind)
      where
        alone : (t : ℕ) → t ≤ y.kind → IsNotAfter (pos t ∷ []) (instance_key y ++ rest)
        alone t most = at_most_first (pos t) (pos y.kind) [] ((y.values ++ flat_map port_key y.links) ++ rest) (omega (arith, ints, most)) (none_first ((y.values ++ flat_map port_key y.links) ++ rest))

        by : (kinds : List ℕ) → IsTrue (ascends kinds) → IsTrue (has_number kinds y.kind) → IsNotAfter (instance_start m s i later kinds) (instance_key y ++ rest)
        by [] up has = absurd (false≢true has)
        by (t ∷ []) up has =
            subst (λ u. IsNotAfter (instance_start m s i later (u ∷ [])) (instance_key y ++ rest)) (sym (only_one t has)) (sole_holds later rest more)
          where
            only_one : (t : ℕ) → IsTrue (has_number (t ∷ []) y.kind) → t ≡ y.kind
            only_one t has = elim (or_cases (t == y.kind) false has) [
              | inl same ↦ eqb-true t y.kind same
              | inr none ↦ absurd (false≢true none)
            ]
        by (t ∷ u ∷ ts) up has = elim (or_cases (t == y.kind) (has_number (u ∷ ts) y.kind) has) [
          | inl same ↦ alone t (omega (arith, eqb-true t y.kind same))
          | inr other ↦ alone t (omega (arith, below_rest t (u ∷ ts) up y.kind other))
        ]

  -- the instances from one on, beside those of the configuration
  instances_hold : IsState m s → (n i : ℕ) (rest : List Instance) → i + n ≡ number_made s → n ≤ length rest
      → ((k : ℕ) (y : Instance) → IsAt rest k y → IsAt c (i + k) y) → IsNotAfter (instances_start m s (range_with_len i n)) (key rest)
  unfolding key
  instances_hold state zero i rest end long place = none_first (flat_map instance_key rest)
  instances_hold state (suc n) i [] end long place = absurd (omega (arith, long))
  instances_hold state (suc n) i (y ∷ rest) end long place =
      let x = get_or s.made i otherwise in
      let made : IsAt s.made i x = slice_get-get_or s.made i otherwise (omega (arith, end)) in
      let found = covered_at m s c state h i x made in
      let here : IsAt c i y = subst (λ k. IsAt c k y) (omega arith) (place 0 y refl) in
      let same : found.0 ≡ y = same_Some found.0 y (sym found.1.there ∙ here) in
      instance_holds i x y (subst (IsCoveredAt m s c i x) same found.1) (instances_start m s (range_with_len (i + 1) n)) (flat_map instance_key rest)
      (instances_hold state n (i + 1) rest (omega (arith, end)) (omega (arith, long)) (λ k z at. subst (λ j. IsAt c j z) (omega arith) (place (suc k) z at)))
    where
      otherwise : MadeInstance
      otherwise = record { kinds = []; domains = []; ports = [] }

-- The key of a covered configuration is never before the key start.
pub key_start_holds : KeyStartHolds
unfolding key_start
key_start_holds m s c valid state h =
    instances_hold m s c (valid_has_ids m valid) h state (number_made s) 0 c (omega arith) h.enough (λ k y at. subst (λ j. IsAt c j y) (omega arith) at)

-- where a list that is not after another comes after a third one, so does the other
after_not_after : (start key other : List ℤ) → IsNotAfter start key → slice_cmp int_cmp start other ≡ Greater → slice_cmp int_cmp key other ≡ Greater
after_not_after start key other not_after after = by (slice_cmp int_cmp start key) refl not_after
  where
    total : IsTotalOrder (slice_cmp int_cmp)
    total = lists_total int_cmp_total

    by : (r : Ordering) → slice_cmp int_cmp start key ≡ r → r ≢ Greater → slice_cmp int_cmp key other ≡ Greater
    by Less less never = total.antisymm key other ∙ ap ordering_reverse (total.trans other start key (total.antisymm other start ∙ ap ordering_reverse after) less)
    by Equal same never = sym (total.congr start key other same) ∙ after
    by Greater is never = absurd (never refl)

-- Where the key start comes after a key, so does the key of each covered configuration.
pub key_start_decides : KeyStartDecides
key_start_decides m s c d valid state h after = after_not_after (key_start m s) (key c) (key d) (key_start_holds m s c valid state h) after
