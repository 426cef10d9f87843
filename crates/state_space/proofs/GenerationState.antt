-- A generation keeps a state of a problem one.
use Rattle.std.proofs.Common.{◌≡◌, ℕ, ◌≤◌, ◌<◌, ◌+◌, ◌-◌, ◌==◌, Bool, true, false, ◌&&◌, List, [], ◌∷◌, ◌++◌, length, map, refl, ap, sym, ◌∙◌, subst, inl, inr, Some, None, Option, arith, lt-ltb, ltb-true, le-leb, leb-true}
use Rattle.std.specs.Prelude.{IsTrue, slice_get, slice_index_or, nat_lt, nat_le, if◌then◌else◌}
use Rattle.std.specs.Option.{option_map, option_map_or, option_and_then, is_some}
use Rattle.std.specs.List.{list_all, filter, range_with_len, enumerate_from}
use Rattle.std.proofs.lemmas.Bool.{and_parts, and_from, or_cases, or_left, or_right, false≢true, eq-eqb, eqb-true}
use Rattle.std.proofs.lemmas.List.{length-map, length-append}
use Rattle.std.proofs.lemmas.Option.{same_Some, none-some, get_or_from_slice_get}
use Rattle.base_laws.specs.Places.{IsAt}
use Rattle.base_laws.proofs.Places.{map_at}
use Rattle.base_laws.proofs.Tests.{list_all_at, list_all_from, list_any_from, option_map_or_at}
use Rattle.prod_model.specs.declared.model.Model.{Model}
use Rattle.prod_model.specs.declared.model.PortAt.{PortAt}
use Rattle.prod_model.specs.Limits.{is_between, most_links}
use Rattle.prod_model.specs.Forest.{is_a, is_type}
use Rattle.prod_model.specs.Taxonomy.{Named, made_port, ports_of, ports_at, port_of}
use Rattle.prod_model.specs.Valid.{IsValid, knows_types, has_known_parents_and_targets}
use Rattle.prod_model.proofs.EntryLimits.{entries_pass}
use Rattle.prod_model.proofs.Inverses.{declared_at}
use Rattle.config_value.specs.declared.literal.Literal.TheVariants as literal
use Rattle.config_value.specs.Shaped.{ascends}
use Rattle.config_value.specs.Literals.{has_port}
use Rattle.config_value.proofs.Places.{is_between_at, is_between_from}
use Rattle.state_space.specs.Sets.{has_number, with_number}
use Rattle.state_space.specs.Ports.{PortState, is_closed, made_here, made_elsewhere}
use Rattle.state_space.specs.Made.{MadeInstance, port_of_made}
use Rattle.state_space.specs.State.{State, number_made, kinds_at, port_at, leaves_under, IsPortOf, IsMadeOf, IsState}
use Rattle.state_space.specs.Root.{new_instance}
use Rattle.state_space.specs.Generation.{PortOf, first_open, open_port_passes, can_generate, owes_instance, ports_after, target_at, generated_for, generated}
use Rattle.state_space.specs.Entails.{fits}
use Rattle.state_space.specs.Changes.{ChangesBy}
use Rattle.state_space.specs.Laws.{GenerationKeepsState, FittingKeepsState}
use Rattle.state_space.proofs.PortLaws.{all_has, all_from_has, has_number-filter, ascends-filter, below_rest, ascends_rest}
use Rattle.state_space.proofs.EntailsLaws.{port_parts}
use Rattle.state_space.proofs.WholeLaws.{map_read, table_read}
use Rattle.state_space.proofs.OpenPort.{find_place, IsFirstOpen}
use Rattle.state_space.proofs.GenerationLaws.{has_number-append, has_number-with, with_number-here, with_number-kept}
use Rattle.state_space.proofs.GenerationKept.{enumerated_at, at_longer, port_after_at, first_open_is}
use Rattle.state_space.proofs.SearchLaws.{narrows_or_made}
use Rattle.state_space.proofs.StateLaws.{narrowing_keeps_state}
use Rattle.state_space.proofs.NewState.{ascends-range, range_below, numbered_long, new_is_made, port_there}

-- ---- sets with one more number

-- what is above a number ascends behind it
cons-ascends : (n : ℕ) (ys : List ℕ) → IsTrue (ascends ys) → ((k : ℕ) → IsTrue (has_number ys k) → n < k) → IsTrue (ascends (n ∷ ys))
cons-ascends n [] up above = refl
cons-ascends n (y ∷ ys) up above = and_from _ _ (lt-ltb n y (above y (or_left _ _ (eq-eqb y y refl)))) up

-- what ascends below a number, the number, and what ascends above it ascend
joined-ascends : (xs : List ℕ) (n : ℕ) (ys : List ℕ) → IsTrue (ascends xs) → ((k : ℕ) → IsTrue (has_number xs k) → k < n)
    → IsTrue (ascends ys) → ((k : ℕ) → IsTrue (has_number ys k) → n < k) → IsTrue (ascends (xs ++ n ∷ ys))
joined-ascends [] n ys up below up' above = cons-ascends n ys up' above
joined-ascends (x ∷ xs) n ys up below up' above =
    cons-ascends x (xs ++ n ∷ ys)
    (joined-ascends xs n ys (ascends_rest x xs up) (λ k there. below k (or_right (x == k) (has_number xs k) there)) up' above)
    (λ k there. elim (or_cases (has_number xs k) (has_number (n ∷ ys) k) (sym (has_number-append xs (n ∷ ys) k) ∙ there)) [
      | inl low ↦ below_rest x xs up k low
      | inr rest ↦
          let first : x < n = below x (or_left _ _ (eq-eqb x x refl)) in
          elim (or_cases (n == k) (has_number ys k) rest) [
            | inl here ↦ let same = eqb-true n k here in omega (arith, first, same)
            | inr high ↦ let past = above k high in omega (arith, first, past)
          ]
    ])

with_ascends : (n : ℕ) (set : List ℕ) → IsTrue (ascends set) → IsTrue (ascends (with_number n set))
with_ascends n set up =
    joined-ascends (filter (λ j. nat_lt j n) set) n (filter (λ j. nat_lt n j) set)
    (ascends-filter (λ j. nat_lt j n) set up)
    (λ k there. ltb-true k n (and_parts (has_number set k) (nat_lt k n) (sym (has_number-filter (λ j. nat_lt j n) set k) ∙ there)).1)
    (ascends-filter (λ j. nat_lt n j) set up)
    (λ k there. ltb-true n k (and_parts (has_number set k) (nat_lt n k) (sym (has_number-filter (λ j. nat_lt n j) set k) ∙ there)).1)

-- numbers below n, and n, are below the next number
with_below : (n : ℕ) (set : List ℕ) → IsTrue (list_all (λ j. nat_lt j n) set) → IsTrue (list_all (λ j. nat_lt j (n + 1)) (with_number n set))
with_below n set below = all_from_has (λ j. nat_lt j (n + 1)) (with_number n set) (λ k there. elim (has_number-with n set k there) [
  | inl same ↦ lt-ltb k (n + 1) (omega (arith, same))
  | inr before ↦ let low = ltb-true k n (all_has (λ j. nat_lt j n) set k below before) in lt-ltb k (n + 1) (omega (arith, low))
])

-- ---- ports

module _ (n : ℕ) (q : PortState) (is : IsPortOf n q) where
  -- what was possible is so with n
  still : (k : ℕ) → IsTrue (has_number q.possible k) → IsTrue (has_number (with_number n q.possible) k)
  still k there = with_number-kept n q.possible k (ltb-true k n (all_has (λ j. nat_lt j n) q.possible k is.to_made there)) there

  -- what is required is possible
  required_possible : (k : ℕ) → IsTrue (has_number q.required k) → IsTrue (has_number q.possible k)
  required_possible k there = all_has (has_number q.possible) q.required k (port_parts q is.formed).within there

  high_few : q.fresh_high ≤ most_links
  high_few = leb-true q.fresh_high most_links is.few

  here_is_port : IsPortOf (n + 1) (made_here n q)
  here_is_port =
      let parts = port_parts q is.formed in
      let few = high_few in
      record {
        formed = and_from _ _ (and_from _ _ (and_from _ _ (with_ascends n q.required parts.required_ascends) (with_ascends n q.possible parts.possible_ascends))
            (all_from_has (has_number (with_number n q.possible)) (with_number n q.required) (λ k there. elim (has_number-with n q.required k there) [
              | inl same ↦ subst (λ j. IsTrue (has_number (with_number n q.possible) j)) same (with_number-here n q.possible)
              | inr before ↦ still k (required_possible k before)
            ])))
            (le-leb (q.fresh_low - 1) (q.fresh_high - 1) (omega (arith, parts.bounds)));
        to_made = with_below n q.possible is.to_made;
        few = le-leb (q.fresh_high - 1) most_links (omega (arith, few));
      }

  elsewhere_is_port : IsPortOf (n + 1) (made_elsewhere n q)
  elsewhere_is_port = by (is_closed q)
    where
      by : (b : Bool) → IsPortOf (n + 1) (if b then q else record q { possible = with_number n q.possible; fresh_low = q.fresh_low - 1 })
      by true = record {
        formed = is.formed;
        to_made = all_from_has (λ j. nat_lt j (n + 1)) q.possible (λ k there.
            let low = ltb-true k n (all_has (λ j. nat_lt j n) q.possible k is.to_made there) in lt-ltb k (n + 1) (omega (arith, low)));
        few = is.few;
      }
      by false =
          let parts = port_parts q is.formed in
          record {
            formed = and_from _ _ (and_from _ _ (and_from _ _ parts.required_ascends (with_ascends n q.possible parts.possible_ascends))
                (all_from_has (has_number (with_number n q.possible)) q.required (λ k there. still k (required_possible k there))))
                (le-leb (q.fresh_low - 1) q.fresh_high (omega (arith, parts.bounds)));
            to_made = with_below n q.possible is.to_made;
            few = is.few;
          }

  after_is_port : (b : Bool) → IsPortOf (n + 1) ((if b then made_here n else made_elsewhere n) q)
  after_is_port true = here_is_port
  after_is_port false = elsewhere_is_port

-- ---- instances made before

-- something stands where a port is told
pub some_told : {D : Type 0} (o : Option D) → IsTrue (is_some o) → (d : D) × (o ≡ Some d)
some_told None some = absurd (false≢true some)
some_told (Some d) some = (d, refl)

module _ (m : Model) (n : ℕ) (at : PortOf) (k : ℕ) (x : MadeInstance) (is : IsMadeOf m n x) where
  abbrev change : ℕ × Option PortState → Option PortState
  change e = option_map (if (k == at.instance) && (e.0 == at.port) then made_here n else made_elsewhere n) e.1

  after_some : (p : ℕ) → IsTrue (is_some (port_of_made x p)) → IsTrue (is_some (slice_index_or (ports_after n at k x.ports) p None))
  after_some p some = let q = some_told (port_of_made x p) some in ap is_some (port_after_at n at k x.ports p q.0 q.1)

  after_good : (p : ℕ) (q : PortState) → slice_index_or (ports_after n at k x.ports) p None ≡ Some q → IsPortOf (n + 1) q
  after_good p q there =
      let read = map_read change (enumerate_from 0 x.ports) p (Some q) (table_read (map change (enumerate_from 0 x.ports)) p q there) in
      let stands = enumerated_at 0 x.ports p read.0 read.1 in
      by read.0.0 read.0.1 stands.1 read.2
    where
      by : (j : ℕ) (o : Option PortState) → IsAt x.ports p o → Some q ≡ option_map (if (k == at.instance) && (j == at.port) then made_here n else made_elsewhere n) o → IsPortOf (n + 1) q
      by j None at_p is_after = absurd (none-some q (sym is_after))
      by j (Some r) at_p is_after =
          let before = is.ports p r (get_or_from_slice_get x.ports p (Some r) None at_p) in
          let b = (k == at.instance) && (j == at.port) in
          subst (IsPortOf (n + 1)) (same_Some ((if b then made_here n else made_elsewhere n) r) q (sym is_after)) (after_is_port n r before b)

  made_after : IsMadeOf m (n + 1) (record x { ports = ports_after n at k x.ports })
  made_after = record {
    formed = is.formed;
    each_attribute = is.each_attribute;
    each_port = length-map (enumerate_from 0 x.ports) change ∙ (numbered_long 0 x.ports ∙ is.each_port);
    some = is.some;
    leaves = is.leaves;
    has_domains = is.has_domains;
    has_ports = λ p any. after_some p (is.has_ports p any);
    domains = is.domains;
    ports = after_good;
  }

-- ---- targets

-- the target of a port of a type is a type
port_target : (m : Model) → IsValid m → (t k : ℕ) (q : PortAt) → IsAt (ports_at m t) k q → IsTrue (is_type m q.target)
unfolding ports_of has_known_parents_and_targets
port_target m valid t k q at =
    let port = declared_at m t k q at in
    let entry = map_at (λ (e : Named PortAt). e.what) (ports_of m.types t) k port.0 port.1 in
    let each : IsTrue (list_all (λ d. list_all (λ p. is_type m p.target) d.ports) m.types) =
    list_all_from (λ d. list_all (λ p. is_type m p.target) d.ports) m.types (λ k d at. (and_parts _ _ (list_all_at (knows_types m) m.types valid.declared.taxonomy.known_parents k d at)).1) in
    let all = entries_pass (λ d. d.ports) (λ d. d.name) made_port (λ d p. made_port p.id d) m.types (λ d. is_type m d.target) (λ q. is_type m q.target)
    (λ id d pass. pass) (λ d a pass. pass) each t in
    subst (λ (q : PortAt). IsTrue (is_type m q.target)) port.2
    (subst (λ (q : PortAt). IsTrue (is_type m q.target)) entry.2 (list_all_at (λ (e : Named PortAt). is_type m e.what.target) (ports_of m.types t) all k entry.0 entry.1))

-- ---- the law

-- the first instance keeps its types
first_kinds : (change : ℕ × MadeInstance → MadeInstance) → ((e : ℕ × MadeInstance) → (change e).kinds ≡ e.1.kinds) → (xs : List MadeInstance) (new : MadeInstance) → 1 ≤ length xs
    → option_map_or (λ x. x.kinds) (slice_get (map change (enumerate_from 0 xs) ++ new ∷ []) 0) [] ≡ option_map_or (λ x. x.kinds) (slice_get xs 0) []
first_kinds change same [] new some = absurd (omega (arith, some))
first_kinds change same (x ∷ xs) new some = same (0, x)

module _ (m : Model) (s : State) (valid : IsValid m) (state : IsState m s) (room : number_made s < m.instances) (at : PortOf) (f : IsFirstOpen m 0 s.made at) where
  abbrev n : ℕ
  n = number_made s

  abbrev after : ℕ × MadeInstance → MadeInstance
  after e = record e.1 { ports = ports_after n at e.0 e.1.ports }

  abbrev old : List MadeInstance
  old = map after (enumerate_from 0 s.made)

  abbrev new : MadeInstance
  new = new_instance m (leaves_under m (target_at m s at)) (range_with_len 0 (n + 1))

  target_is_type : target_at m s at < length m.types
  target_is_type =
      let place : at.instance ≡ f.skipped = omega (arith, f.instance) in
      let kinds : kinds_at s at.instance ≡ f.kind ∷ [] = ap (λ i. kinds_at s i) place ∙ (ap (λ o. option_map_or (λ x. x.kinds) o []) f.there ∙ f.sole) in
      let has : IsTrue (has_port m f.kind at.port) = list_any_from (λ (q : PortAt). q.id == at.port) (ports_at m f.kind) f.place f.port f.port_there (eq-eqb f.port.id at.port f.port_id) in
      let q = port_there m f.kind at.port has in
      let stands = find_place (λ (r : PortAt). r.id == at.port) (ports_at m f.kind) q.0 q.1 in
      let is : target_at m s at ≡ q.0.target =
      ap (λ ks. option_map_or (λ p. p.target) (option_and_then (λ t. port_of m t at.port) (slice_get ks 0)) 0) kinds
      ∙ ap (λ o. option_map_or (λ p. p.target) o 0) q.1 in
      subst (λ t. t < length m.types) (sym is) (ltb-true q.0.target (length m.types) (port_target m valid f.kind stands.0 q.0 stands.1))

  long : length (old ++ new ∷ []) ≡ n + 1
  long = length-append old (new ∷ []) ∙ ap (λ k. k + 1) (length-map (enumerate_from 0 s.made) after ∙ numbered_long 0 s.made)

  new_good : IsMadeOf m (n + 1) new
  new_good = new_is_made m valid (target_at m s at) (range_with_len 0 (n + 1)) (n + 1) target_is_type (ascends-range 0 (n + 1)) (range_below 0 (n + 1) (n + 1) (omega arith))

  old_good : (k : ℕ) (x : MadeInstance) → IsAt old k x → IsMadeOf m (n + 1) x
  old_good k x there =
      let e = map_read after (enumerate_from 0 s.made) k x there in
      let stands = enumerated_at 0 s.made k e.0 e.1 in
      subst (IsMadeOf m (n + 1)) (sym e.2) (made_after m n at e.0.0 e.0.1 (state.each k e.0.1 stands.1))

  some_made : 1 ≤ n
  some_made = (is_between_at 1 m.instances n state.size).0

  generated_state : IsState m (generated_for m s at)
  generated_state = record {
    attribute_types = state.attribute_types;
    port_types = state.port_types;
    size = subst (λ k. IsTrue (is_between 1 m.instances k)) (sym long) (is_between_from 1 m.instances (n + 1) (omega arith, omega (arith, room)));
    root = subst (λ ks. IsTrue (list_all (λ t. is_a m t m.root) ks)) (sym (first_kinds after (λ e. refl) s.made new some_made)) state.root;
    each = λ k x at_x. subst (λ j. IsMadeOf m j x) (sym long) (elim (at_longer old new k x at_x) [
      | inl there ↦ old_good k x there
      | inr last ↦ subst (IsMadeOf m (n + 1)) last.1 new_good
    ]);
  }

pub generation_keeps_state : GenerationKeepsState
unfolding generated
generation_keeps_state m s valid state can =
    let both = and_parts (nat_lt (number_made s) m.instances) (open_port_passes m s (λ q. nat_le 1 q.fresh_high)) can in
    let found = option_map_or_at (λ at. option_map_or (λ q. nat_le 1 q.fresh_high) (port_at s at.instance at.port) false) (first_open m s) both.1 in
    subst (λ o. IsState m (option_map_or (generated_for m s) o s)) (sym found.1)
    (generated_state m s valid state (ltb-true (number_made s) m.instances both.0) found.0 (first_open_is m s found.0 found.1))

pub fitting_keeps_state : FittingKeepsState
unfolding fits
fitting_keeps_state m l result old new valid state fit changes = elim (narrows_or_made l) [
  | inl narrows ↦ narrowing_keeps_state m l result old new state narrows changes
  | inr made ↦ by made.0 (subst (λ k. IsTrue (fits m old k)) made.1 fit) (subst (λ k. ChangesBy m k result old new) made.1 changes)
]
  where
    by : (i : ℕ) → IsTrue (fits m old (literal.Made i)) → ChangesBy m (literal.Made i) result old new → IsState m new
    by i fit changes =
        let both = and_parts ((i == number_made old) && can_generate m old) (owes_instance m old) fit in
        subst (IsState m) (sym changes.1) (generation_keeps_state m old valid state (and_parts (i == number_made old) (can_generate m old) both.0).1)
