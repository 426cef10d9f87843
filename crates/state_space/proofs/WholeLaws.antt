-- A whole state covers one configuration of its size at most.
use Rattle.std.proofs.Common.{◌≡◌, ℕ, zero, suc, ◌+◌, ◌≤◌, ◌<◌, Bool, true, false, not, cond, ◌&&◌, ◌||◌, List, [], ◌∷◌, length, map, refl, ap, ap₂, sym, ◌∙◌, subst, inl, inr, Some, None, Option, ℤ, pos, nat_abs, ◌-ℤ◌, arith, get_or, lt-ltb, ne_eqb, ltb-true, zero-le, zero-add}
use Rattle.std.specs.Prelude.{IsTrue, ◌==◌, slice_index_or, nat_lt, nat_le, int_le}
use Rattle.std.specs.Option.{option_map_or, option_map}
use Rattle.std.specs.Ordering.{int_eq}
use Rattle.std.specs.List.{list_any, list_all, filter, count_by, zip, position, position_or_len, range_with_len, sum_by}
use Rattle.std.proofs.lemmas.Int.{ints}
use Rattle.std.proofs.lemmas.List.Sums.{sum_by-cons, position_or_len_is}
use Rattle.std.proofs.lemmas.List.{length-map}
use Rattle.base_laws.specs.Places.{IsAt}
use Rattle.base_laws.proofs.Tests.{list_any_from, list_all_at, option_map_or_at}
use Rattle.base_laws.proofs.Ranges.{slice_get_range_with_len}
use Rattle.std.proofs.lemmas.Bool.{and_parts, and_from, or_cases, or_left, or_right, eqb-true, eq-eqb, false≢true}
use Rattle.std.proofs.lemmas.Bool.Decides.{nat_tests, eqb_tells}
use Rattle.std.proofs.lemmas.Option.{same_Some, none-some, slice_get_within, slice_get-get_or, get_or_from_slice_get, slice_get-map}
use Rattle.std.specs.Cmp.{signed_Decides}
use Rattle.prod_model.specs.declared.model.Model.{Model}
use Rattle.prod_model.specs.declared.model.AttrAt.{AttrAt}
use Rattle.prod_model.specs.declared.model.PortAt.{PortAt}
use Rattle.prod_model.specs.Limits.{is_between, most_instances}
use Rattle.prod_model.specs.Forest.{is_leaf, type_numbers}
use Rattle.prod_model.specs.Taxonomy.{attributes_at, ports_at}
use Rattle.base_laws.proofs.Lists.{slice_get_zip}
use Rattle.config_value.specs.declared.configuration.Instance.{Instance}
use Rattle.config_value.specs.Value.{value_of, links_of}
use Rattle.config_value.specs.Spelled.{is_spelled}
use Rattle.config_value.specs.Shaped.{ascends, has_leaf_types}
use Rattle.state_space.specs.Made.{MadeInstance, domain_of, port_of_made}
use Rattle.config_value.specs.Literals.{has_attribute, has_port}
use Rattle.state_space.specs.State.{State, IsState, IsMadeOf, number_made, leaves_that, first_attributes, first_ports}
use Rattle.state_space.specs.Covers.{CoversInstance, Covers}
use Rattle.state_space.specs.Declared.{HasIds}
use Rattle.state_space.proofs.OfIds.{WholeCoversOnlyOne}
use Rattle.state_space.proofs.NarrowingLaws.{true_along}
use Rattle.domain_store.specs.declared.interval.Interval.{Interval}
use Rattle.state_space.specs.Values.{Values, Numbers, Words, width, has_value, least}
use Rattle.state_space.specs.Ports.{PortState, parted, allows, is_port, is_closed}
use Rattle.state_space.specs.Sets.{has_number}
use Rattle.domain_store.specs.Intervals.{is_inside, is_in_one}
use Rattle.state_space.specs.Whole.{has_one_value, is_settled_port, all_of_type, is_whole_of, is_whole, value_left, links_left, instance_left, whole_configuration}
use Rattle.state_space.proofs.PortLaws.{all_has, below_rest, ascends_rest, has_number-filter, count_by-member}
use Rattle.state_space.proofs.EntailsLaws.{allowed_parts, port_parts, links_ascend, spelled_links_at}

-- ---- one value

-- a number in an interval of one number is its low end
only_inside : (r : Interval) (v : ℤ) → width r ≡ 1 → IsTrue (is_inside r v) → v ≡ r.low
only_inside r v one inside =
    let both = and_parts (int_le r.low v) (int_le v r.high) inside in
    let flat : nat_abs (r.high -ℤ r.low) ≡ 0 = omega (arith, one) in
    grind (arith, ints, both.0, both.1, flat)

only_number : (rs : List Interval) (v : ℤ) → sum_by width rs ≡ 1 → IsTrue (is_in_one rs v) → v ≡ least (Numbers rs)
only_number [] v one there = absurd (false≢true there)
only_number (r ∷ []) v one there = elim (or_cases (is_inside r v) false there) [
  | inl here ↦ only_inside r v (omega (arith, one, sum_by-cons width r [])) here
  | inr none ↦ absurd (false≢true none)
]
only_number (r ∷ s ∷ rs) v one there =
    absurd (omega (arith, one, sum_by-cons width r (s ∷ rs), sum_by-cons width s rs))

only_word : (ws : List ℕ) (v : ℤ) → length ws ≡ 1 → IsTrue (has_value (Words ws) v) → v ≡ least (Words ws)
only_word [] v one there = absurd (false≢true there)
only_word (w ∷ []) v one there = elim (or_cases (int_eq (pos w) v) false there) [
  | inl here ↦ sym ((signed_Decides (pos w) v).0 here)
  | inr none ↦ absurd (false≢true none)
]
only_word (w ∷ u ∷ ws) v one there = absurd (two (length ws) one)
  where
    two : (n : ℕ) → suc (suc n) ≡ 1 → ⊥
    two n same = omega (arith, same)

-- the one value of a domain
pub only_value : (d : Values) (v : ℤ) → IsTrue (has_one_value d) → IsTrue (has_value d v) → v ≡ least d
only_value (Numbers rs) v one there = only_number rs v (eqb-true (sum_by width rs) 1 one) there
only_value (Words ws) v one there = only_word ws v (eqb-true (length ws) 1 one) there

-- ---- one set of links

-- ascending numbers with the same members are the same
pub same_members : (xs ys : List ℕ) → IsTrue (ascends xs) → IsTrue (ascends ys) → ((k : ℕ) → IsTrue (has_number xs k) → IsTrue (has_number ys k))
    → ((k : ℕ) → IsTrue (has_number ys k) → IsTrue (has_number xs k)) → xs ≡ ys
same_members [] [] up up' there back = refl
same_members [] (y ∷ ys) up up' there back = absurd (false≢true (back y (or_left _ _ (eq-eqb y y refl))))
same_members (x ∷ xs) [] up up' there back = absurd (false≢true (there x (or_left _ _ (eq-eqb x x refl))))
same_members (x ∷ xs) (y ∷ ys) up up' there back =
    let same : x ≡ y = heads x xs y ys up up' there back in
    ap₂ (λ z zs. z ∷ zs) same (same_members xs ys (ascends_rest x xs up) (ascends_rest y ys up')
    (rests x xs y ys up same there) (rests y ys x xs up' (sym same) back))
  where
    rests : (x : ℕ) (xs : List ℕ) (y : ℕ) (ys : List ℕ) → IsTrue (ascends (x ∷ xs)) → x ≡ y
        → ((k : ℕ) → IsTrue (has_number (x ∷ xs) k) → IsTrue (has_number (y ∷ ys) k)) → (k : ℕ) → IsTrue (has_number xs k) → IsTrue (has_number ys k)
    rests x xs y ys up same there k later = elim (or_cases (y == k) (has_number ys k) (there k (or_right _ _ later))) [
      | inl here ↦ let above = below_rest x xs up k later in absurd (omega (arith, above, same, eqb-true y k here))
      | inr rest ↦ rest
    ]

    not_below : (x : ℕ) (xs : List ℕ) (y : ℕ) (ys : List ℕ) → IsTrue (ascends (y ∷ ys)) → IsTrue (has_number (y ∷ ys) x) → y ≤ x
    not_below x xs y ys up' here = elim (or_cases (y == x) (has_number ys x) here) [
      | inl is ↦ omega (arith, eqb-true y x is)
      | inr later ↦ let above = below_rest y ys up' x later in omega (arith, above)
    ]

    heads : (x : ℕ) (xs : List ℕ) (y : ℕ) (ys : List ℕ) → IsTrue (ascends (x ∷ xs)) → IsTrue (ascends (y ∷ ys))
        → ((k : ℕ) → IsTrue (has_number (x ∷ xs) k) → IsTrue (has_number (y ∷ ys) k)) → ((k : ℕ) → IsTrue (has_number (y ∷ ys) k) → IsTrue (has_number (x ∷ xs) k)) → x ≡ y
    heads x xs y ys up up' there back =
        let a : y ≤ x = not_below x xs y ys up' (there x (or_left _ _ (eq-eqb x x refl))) in
        let b : x ≤ y = not_below y ys x xs up (back y (or_left _ _ (eq-eqb y y refl))) in
        omega (arith, a, b)

-- the one list of links that a settled port allows
pub only_links : (made : ℕ) (q : PortState) (links : List ℕ) → IsTrue (is_port q) → IsTrue (ascends links) → IsTrue (is_settled_port q)
    → IsTrue (allows q (parted made links)) → links ≡ q.required
only_links made q links port up settled allowed =
    let both = and_parts (is_closed q) (list_all (has_number q.required) q.possible) settled in
    let parts = allowed_parts made q links allowed in
    let closed : q.fresh_high ≡ 0 = eqb-true q.fresh_high 0 both.0 in
    same_members links q.required up (port_parts q port).required_ascends
    (λ k linked. all_has (has_number q.required) q.possible k both.1
    (all_has (has_number q.possible) (filter (λ j. nat_lt j made) links) k parts.possible
    (has_number-filter (λ j. nat_lt j made) links k ∙ and_from _ _ linked (early k linked (omega (arith, parts.most, closed))))))
    (λ k required. (and_parts _ _ (sym (has_number-filter (λ j. nat_lt j made) links k)
    ∙ all_has (has_number (filter (λ j. nat_lt j made) links)) q.required k parts.required required)).0)
  where
    early : (k : ℕ) → IsTrue (has_number links k) → count_by (nat_le made) links ≤ 0 → IsTrue (nat_lt k made)
    early k linked none = by (nat_lt k made) refl
      where
        by : (b : Bool) → nat_lt k made ≡ b → b ≡ true
        by true is = refl
        by false is = let one = count_by-member (nat_le made) links k linked (past is) in absurd (omega (arith, one, none))
          where
            past : nat_lt k made ≡ false → IsTrue (nat_le made k)
            past is = grind (arith, nat_tests, is)

-- ---- values and links by place

-- the place of an id that stands once
pub position_here : {X : Type 0} (id_of : X → ℕ) (xs : List X) → ((j k : ℕ) (a b : X) → IsAt xs j a → IsAt xs k b → id_of a ≡ id_of b → j ≡ k)
    → (k : ℕ) (a : X) → IsAt xs k a → position (λ b. id_of b == id_of a) xs ≡ Some k
position_here id_of xs apart k a at = ap₂ (λ b n. cond b (Some n) None) (ap (λ n. nat_lt n (length xs)) place ∙ lt-ltb k (length xs) within) place
  where
    within : k < length xs
    within = slice_get_within xs k a at

    same : get_or xs k a ≡ a
    same = get_or_from_slice_get xs k a a at

    before : (j : ℕ) → j < k → (id_of (get_or xs j a) == id_of a) ≡ false
    before j early = ne_eqb _ _ (λ is. let j_is : j ≡ k = apart j k (get_or xs j a) a (slice_get-get_or xs j a (omega (arith, early, within))) at is in absurd (omega (arith, early, j_is)))

    place : position_or_len (λ b. id_of b == id_of a) xs ≡ k
    place = position_or_len_is (λ b. id_of b == id_of a) xs k a (omega (arith, within)) before (λ h. eq-eqb (id_of (get_or xs k a)) (id_of a) (ap id_of same))

-- lists that are as long, with the same at each place, are the same
same_places : {X : Type 0} (xs ys : List X) → length xs ≡ length ys → ((k : ℕ) (x y : X) → IsAt xs k x → IsAt ys k y → x ≡ y) → xs ≡ ys
same_places [] [] long each = refl
same_places [] (y ∷ ys) long each = absurd cc
same_places (x ∷ xs) [] long each = absurd cc
same_places (x ∷ xs) (y ∷ ys) long each =
    let rest : length xs ≡ length ys = cc in
    ap₂ (λ z zs. z ∷ zs) (each 0 x y refl refl) (same_places xs ys rest (λ k. each (suc k)))

-- what stands at a place of a mapped list
pub map_read : {X Y : Type 0} (f : X → Y) (xs : List X) (k : ℕ) (y : Y) → IsAt (map f xs) k y → (x : X) × IsAt xs k x × (y ≡ f x)
map_read f [] k y at = absurd (none-some y at)
map_read f (x ∷ xs) zero y at = (x, refl, sym (same_Some (f x) y at))
map_read f (x ∷ xs) (suc k) y at = map_read f xs k y at

-- a list of what is known by id, put in the order of entries in which no id stands twice
by_place : {X Y : Type 0} (id_of : X → ℕ) (entries : List X) (known : List Y) (otherwise : Y) (left : ℕ → Y) → length known ≡ length entries
    → ((j k : ℕ) (a b : X) → IsAt entries j a → IsAt entries k b → id_of a ≡ id_of b → j ≡ k)
    → ((id : ℕ) → IsTrue (list_any (λ a. id_of a == id) entries) → option_map_or (λ k. slice_index_or known k otherwise) (position (λ a. id_of a == id) entries) otherwise ≡ left id)
    → known ≡ map (λ a. left (id_of a)) entries
by_place id_of entries known otherwise left long apart each = same_places known (map (λ a. left (id_of a)) entries) (long ∙ sym (length-map entries (λ a. left (id_of a)))) (λ k x y at_x at_y.
    let a = map_read (λ a. left (id_of a)) entries k y at_y in
    let there : IsTrue (list_any (λ b. id_of b == id_of a.0) entries) = list_any_from (λ b. id_of b == id_of a.0) entries k a.0 a.1 (eq-eqb (id_of a.0) (id_of a.0) refl) in
    let read : slice_index_or known k otherwise ≡ x = get_or_from_slice_get known k x otherwise at_x in
    sym read ∙ (ap (λ o. option_map_or (λ k. slice_index_or known k otherwise) o otherwise) (sym (position_here id_of entries apart k a.0 a.1)) ∙ (each (id_of a.0) there ∙ sym a.2)))

-- ---- what a whole state says of an instance

-- a table entry stands at its place
pub table_read : {D : Type 0} (parts : List (Option D)) (a : ℕ) (d : D) → slice_index_or parts a None ≡ Some d → IsAt parts a (Some d)
table_read [] a d there = absurd (none-some d there)
table_read (p ∷ ps) zero d there = ap Some there
table_read (p ∷ ps) (suc a) d there = table_read ps a d there

-- a number below the bound is one of the numbers below it
pub in_range : (a n k : ℕ) → a ≤ k → k < a + n → IsTrue (has_number (range_with_len a n) k)
in_range a zero k low high = absurd (omega (arith, low, high))
in_range a (suc n) k low high = elim (eqb_tells a k) [
  | inl same ↦ or_left _ _ same.0
  | inr other ↦ or_right _ _ (in_range (a + 1) n k (omega (arith, low, other.1)) (omega (arith, high)))
]

-- a leaf that passes is one of the leaves that pass
pub leaf_that : (m : Model) (test : ℕ → Bool) (t : ℕ) → IsTrue (is_leaf m t) → IsTrue (test t) → IsTrue (has_number (leaves_that m test) t)
unfolding is_leaf
leaf_that m test t leaf passes =
    let typed : t < length m.types = ltb-true t (length m.types) (and_parts _ _ leaf).0 in
    has_number-filter test (filter (is_leaf m) (type_numbers m.types)) t
    ∙ and_from _ _ (has_number-filter (is_leaf m) (type_numbers m.types) t ∙ and_from _ _ (in_range 0 (length m.types) t zero-le (omega (arith, typed))) leaf) passes

-- the types of an id stand at its place
pub types_read : (f : ℕ → List ℕ) (n a : ℕ) → a < n → IsAt (map f (range_with_len 0 n)) a (f a)
types_read f n a within = slice_get-map f (range_with_len 0 n) a ∙ ap (option_map f) (slice_get_range_with_len 0 n a within ∙ ap Some (zero-add a))

-- what passes for all ids of a type passes for one of them
pub of_type_at : {D : Type 0} (test : D → Bool) (t : ℕ) (types : List (List ℕ)) (parts : List (Option D)) (a : ℕ) (ts : List ℕ) (d : D)
    → IsTrue (all_of_type test t types parts) → IsAt types a ts → IsTrue (has_number ts t) → slice_index_or parts a None ≡ Some d → IsTrue (test d)
of_type_at test t types parts a ts d all at there stands =
    let passes = list_all_at (λ (e : List ℕ × Option _). not (has_number e.0 t) || option_map_or test e.1 false) (zip types parts) all a (ts, Some d)
    (slice_get_zip types parts a ts (Some d) at (table_read parts a d stands)) in
    true_along _ _ (ap (λ b. not b || test d) there) passes

module _ (m : Model) (s : State) (c : List Instance) (ids : HasIds m) (state : IsState m s) (h : Covers m s c) where
  -- an instance of a whole state is the one that is left
  pub instance_is : (i : ℕ) (x : MadeInstance) (y : Instance) → IsAt s.made i x → IsAt c i y → IsTrue (is_whole_of s x x.kinds)
      → length y.values ≡ length (attributes_at m y.kind) → length y.links ≡ length (ports_at m y.kind)
      → ((p : ℕ) → IsTrue (ascends (links_of m y p))) → y ≡ instance_left m x
  instance_is i x y at_x at_y whole values_long links_long up = by x.kinds refl whole
    where
      covered : CoversInstance m (number_made s) x y
      covered = h.each i x y at_x at_y

      made : IsMadeOf m (number_made s) x
      made = state.each i x at_x

      leaf : IsTrue (is_leaf m y.kind)
      leaf = all_has (is_leaf m) x.kinds y.kind made.leaves covered.kind

      value_is : IsTrue (all_of_type has_one_value y.kind s.attribute_types x.domains) → (a : ℕ) → IsTrue (has_attribute m y.kind a) → value_of m y a ≡ value_left x a
      value_is all a has =
          let found = option_map_or_at (λ d. has_value d (value_of m y a)) (domain_of x a) (covered.values a has) in
          let d = found.0 in
          let at : IsAt s.attribute_types a (leaves_that m (λ t. has_attribute m t a)) =
          subst (λ ts. IsAt ts a (leaves_that m (λ t. has_attribute m t a))) (sym state.attribute_types)
          (types_read (λ a. leaves_that m (λ t. has_attribute m t a)) (length (first_attributes m)) a (ids.attributes_declared y.kind a has)) in
          let one = of_type_at has_one_value y.kind s.attribute_types x.domains a (leaves_that m (λ t. has_attribute m t a)) d all at
          (leaf_that m (λ t. has_attribute m t a) y.kind leaf has) found.1 in
          only_value d (value_of m y a) one found.2 ∙ sym (ap (λ o. option_map_or least o (pos 0)) found.1)

      links_are : IsTrue (all_of_type is_settled_port y.kind s.port_types x.ports) → (p : ℕ) → IsTrue (has_port m y.kind p) → links_of m y p ≡ links_left x p
      links_are all p has =
          let found = option_map_or_at (λ q. allows q (parted (number_made s) (links_of m y p))) (port_of_made x p) (covered.links p has) in
          let q = found.0 in
          let at : IsAt s.port_types p (leaves_that m (λ t. has_port m t p)) =
          subst (λ ts. IsAt ts p (leaves_that m (λ t. has_port m t p))) (sym state.port_types)
          (types_read (λ p. leaves_that m (λ t. has_port m t p)) (length (first_ports m)) p (ids.ports_declared y.kind p has)) in
          let settled = of_type_at is_settled_port y.kind s.port_types x.ports p (leaves_that m (λ t. has_port m t p)) q all at
          (leaf_that m (λ t. has_port m t p) y.kind leaf has) found.1 in
          only_links (number_made s) q (links_of m y p) (made.ports p q found.1).formed (up p) settled found.2
          ∙ sym (ap (λ o. option_map_or (λ q. q.required) o []) found.1)

      built : (t : ℕ) → t ≡ y.kind → slice_index_or x.kinds 0 0 ≡ y.kind → IsTrue (is_whole_of s x (t ∷ [])) → y ≡ instance_left m x
      built t same sole whole =
          let both = and_parts (all_of_type has_one_value t s.attribute_types x.domains) (all_of_type is_settled_port t s.port_types x.ports) whole in
          let values = by_place (λ (a : AttrAt). a.id) (attributes_at m y.kind) y.values (pos 0) (value_left x) values_long (ids.attributes_apart y.kind)
          (value_is (subst (λ u. IsTrue (all_of_type has_one_value u s.attribute_types x.domains)) same both.0)) in
          let links = by_place (λ (p : PortAt). p.id) (ports_at m y.kind) y.links [] (links_left x) links_long (ids.ports_apart y.kind)
          (links_are (subst (λ u. IsTrue (all_of_type is_settled_port u s.port_types x.ports)) same both.1)) in
          let left : ℕ → Instance = λ u. record { kind = u; values = map (λ a. value_left x a.id) (attributes_at m u); links = map (λ p. links_left x p.id) (ports_at m u) } in
          let first : y ≡ left y.kind = ap₂ (λ vs ls. let z : Instance = record { kind = y.kind; values = vs; links = ls } in z) values links in
          first ∙ ap left (sym sole)

      by : (kinds : List ℕ) → x.kinds ≡ kinds → IsTrue (is_whole_of s x kinds) → y ≡ instance_left m x
      by [] is whole = absurd (false≢true whole)
      by (t ∷ u ∷ ts) is whole = absurd (false≢true whole)
      by (t ∷ []) is whole = elim (or_cases (t == y.kind) false (true_along _ _ (ap (λ ts. has_number ts y.kind) is) covered.kind)) [
        | inl here ↦ let same : t ≡ y.kind = eqb-true t y.kind here in built t same (ap (λ ts. slice_index_or ts 0 0) is ∙ same) whole
        | inr none ↦ absurd (false≢true none)
      ]

-- the parts of a spelled instance
pub built_at : (m : Model) (c : List Instance) (i : ℕ) (y : Instance) → IsTrue (is_spelled m c) → IsAt c i y
    → (length y.values ≡ length (attributes_at m y.kind)) × (length y.links ≡ length (ports_at m y.kind))
unfolding is_spelled has_leaf_types
built_at m c i y h at =
    let leaves = (and_parts (is_between 1 most_instances (length c)) (list_all (λ x. is_leaf m x.kind
    && (length x.values == length (attributes_at m x.kind)) && (length x.links == length (ports_at m x.kind))) c) (and_parts _ _ h).0).1 in
    let one = list_all_at (λ x. is_leaf m x.kind && (length x.values == length (attributes_at m x.kind)) && (length x.links == length (ports_at m x.kind))) c leaves i y at in
    let both = and_parts (is_leaf m y.kind && (length y.values == length (attributes_at m y.kind))) (length y.links == length (ports_at m y.kind)) one in
    (eqb-true _ _ (and_parts (is_leaf m y.kind) (length y.values == length (attributes_at m y.kind)) both.0).1, eqb-true _ _ both.1)

pub whole_covers_only_one : WholeCoversOnlyOne
unfolding is_whole whole_configuration
whole_covers_only_one m s c ids state whole h long = same_places c (map (instance_left m) s.made) (long ∙ sym (length-map s.made (instance_left m))) (λ i y z at_y at_z.
    let x = map_read (instance_left m) s.made i z at_z in
    let parts = built_at m c i y h.spelled at_y in
    instance_is m s c ids state h i x.0 y x.1 at_y (list_all_at (λ x. is_whole_of s x x.kinds) s.made whole i x.0 x.1) parts.0 parts.1
    (λ p. links_ascend m y p (spelled_links_at m c i y h.spelled at_y)) ∙ sym x.2)
