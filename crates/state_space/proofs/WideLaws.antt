-- What not all possible types of an instance have is as wide as each of them allows: in the root, and after each change by a literal that fits.
use Rattle.std.proofs.Common.{◌≡◌, ◌≤◌, ◌<◌, ℕ, zero, suc, ◌+◌, max, Bool, true, false, ◌&&◌, List, [], ◌∷◌, ◌++◌, length, map, refl, ap, sym, ◌∙◌, subst, inl, inr, Some, None, Option, ℤ, arith, ltb-true, le_refl, zero-add, zero-le, true≢false}
use Rattle.std.specs.Prelude.{IsTrue, ◌==◌, slice_get, slice_set, nat_lt, nat_le, not, if◌then◌else◌}
use Rattle.std.specs.Option.{option_map_or, option_map}
use Rattle.std.specs.List.{list_all, list_any, filter, fold, count_by, range_with_len, enumerate_from}
use Rattle.std.proofs.lemmas.Bool.{and_parts, and_from, eqb-true, eq-eqb, false≢true, false_from_ne_true}
use Rattle.std.proofs.lemmas.Bool.Decides.{eqb_tells}
use Rattle.std.proofs.lemmas.Option.{same_Some, none-some}
use Rattle.std.proofs.lemmas.List.{length-map, length-append, get_or-set_other}
use Rattle.std.proofs.lemmas.List.Sums.{count_by-le-length}
use Rattle.base_laws.specs.Places.{IsAt}
use Rattle.base_laws.proofs.Places.{at_map}
use Rattle.base_laws.proofs.Ranges.{slice_get_range_with_len, at_enumerate}
use Rattle.base_laws.proofs.Tests.{list_any_at, list_any_from, option_map_or_at, option_map_or_from}
use Rattle.prod_model.specs.declared.model.Model.{Model}
use Rattle.prod_model.specs.declared.model.AttrAt.{AttrAt}
use Rattle.prod_model.specs.declared.model.AttrDecl.{AttrDecl}
use Rattle.prod_model.specs.declared.model.PortAt.{PortAt}
use Rattle.prod_model.specs.Forest.{is_a}
use Rattle.prod_model.specs.Taxonomy.{attributes_at, ports_at, port_of, first_words}
use Rattle.config_value.specs.declared.literal.Literal.TheVariants as literal
use Rattle.config_value.specs.Literals.{has_attribute, has_port}
use Rattle.config_value.specs.Shaped.{ascends}
use Rattle.config_value.specs.ShapedSentences.{IsValueOf}
use Rattle.config_value.proofs.Places.{is_between_from}
use Rattle.domain_store.specs.declared.change.Change.{Change}
use Rattle.domain_store.specs.declared.change.Change.TheVariants.{Same, Smaller, Empty}
use Rattle.state_space.specs.Sets.{has_number, Reduces}
use Rattle.state_space.specs.Values.{Values, has_value}
use Rattle.state_space.specs.Ports.{PortState, PortLinks, parted, allows, made_here, made_elsewhere}
use Rattle.state_space.specs.Made.{MadeInstance, domain_of, port_of_made}
use Rattle.state_space.specs.State.{State, number_made, kinds_at, with_made, changed_at, leaves_under, first_attributes, first_ports, values_of}
use Rattle.state_space.specs.Covers.{has_value_under, allows_under}
use Rattle.state_space.specs.Root.{new_instance, ports_under, whole_links, root}
use Rattle.state_space.specs.Generation.{PortOf, first_open, can_generate, owes_instance, ports_after, target_at, generated_for, generated}
use Rattle.state_space.specs.Entails.{fits, all_have_attribute, all_have_port}
use Rattle.state_space.specs.Changes.{NarrowsKinds, NarrowsDomain, NarrowsPort}
use Rattle.state_space.specs.Declared.{HasIds, WholeHasAll}
use Rattle.state_space.specs.Unshared.{IsWide, RootIsWide, ChangeKeepsWide}
use Rattle.state_space.proofs.Changed.{length-changed_at, slice_get-changed_at_same, slice_get-changed_at_other}
use Rattle.state_space.proofs.NarrowingLaws.{true_along}
use Rattle.state_space.proofs.PortLaws.{all_has, all_from_has, has_number-filter}
use Rattle.state_space.proofs.WholeLaws.{in_range, map_read}
use Rattle.state_space.proofs.OpenPort.{find_place, IsFirstOpen}
use Rattle.state_space.proofs.NewLaws.{entry_at, among_ports}
use Rattle.state_space.proofs.NewState.{numbered_long, port_there}
use Rattle.state_space.proofs.GenerationLaws.{elsewhere_keeps}
use Rattle.state_space.proofs.GenerationKept.{enumerated_at, at_longer, port_after_at, first_open_is}
use Rattle.state_space.proofs.ValidLaws.{valid_has_ids, valid_has_whole_domains}

-- ---- one instance

-- One of so many instances is as wide so.
record IsWideOf (m : Model) (made : ℕ) (x : MadeInstance) : Type 0 where
  values : (t k : ℕ) (a : AttrAt) (v : ℤ) → list_all (λ u. has_attribute m u a.id) x.kinds ≡ false → IsTrue (has_number x.kinds t)
      → IsAt (attributes_at m t) k a → IsValueOf a.domain (first_words m a.id) v → IsTrue (has_value_under x a.id v)
  links : (t k : ℕ) (p : PortAt) (links : List ℕ) → list_all (λ u. has_port m u p.id) x.kinds ≡ false → IsTrue (has_number x.kinds t)
      → IsAt (ports_at m t) k p → IsTrue (ascends links) → length links ≤ p.high → IsTrue (allows_under made x p.id links)

-- an instance of a wide state is so
wide_at : (m : Model) (s : State) → IsWide m s → (i : ℕ) (x : MadeInstance) → IsAt s.made i x → IsWideOf m (number_made s) x
wide_at m s wide i x at = record {
  values = λ t k a v unshared possible there is. wide.values i t k x a v at unshared possible there is;
  links = λ t k p links unshared possible there up few. wide.links i t k x p links at unshared possible there up few;
}

-- a state of such instances is wide
wide_from : (m : Model) (s : State) → ((i : ℕ) (x : MadeInstance) → IsAt s.made i x → IsWideOf m (number_made s) x) → IsWide m s
wide_from m s each = record {
  values = λ i t k x a v at unshared possible there is. (each i x at).values t k a v unshared possible there is;
  links = λ i t k x p links at unshared possible there up few. (each i x at).links t k p links unshared possible there up few;
}

-- ---- a new instance

-- what a possible type passes some of them pass
any_of : (test : ℕ → Bool) (kinds : List ℕ) (t : ℕ) → IsTrue (has_number kinds t) → IsTrue (test t) → IsTrue (list_any test kinds)
any_of test kinds t possible passes =
    let found = list_any_at (λ u. u == t) kinds possible in
    list_any_from test kinds found.0 found.1 found.2 (subst (λ u. IsTrue (test u)) (sym (eqb-true found.1 t found.3)) passes)

-- a greatest number is at least each of them
greatest_from : (xs : List ℕ) (b : ℕ) → b ≤ fold max b xs
greatest_from [] b = le_refl b
greatest_from (x ∷ xs) b = let rest = greatest_from xs (max b x) in omega (arith, rest)

greatest_of : (xs : List ℕ) (b k x : ℕ) → IsAt xs k x → x ≤ fold max b xs
greatest_of [] b k x at = absurd (none-some x at)
greatest_of (y ∷ ys) b zero x at = let rest = greatest_from ys (max b y) in let same : y ≡ x = same_Some y x at in omega (arith, rest, same)
greatest_of (y ∷ ys) b (suc k) x at = greatest_of ys (max b y) k x at

-- a new port allows links as few as one of its types does
new_allows : (made : ℕ) (linkable : List ℕ) (qs : List PortAt) (k : ℕ) (q : PortAt) (links : List ℕ) → IsAt qs k q → length links ≤ q.high
    → ((j : ℕ) → j < made → IsTrue (has_number linkable j)) → IsTrue (option_map_or (λ d. allows d (parted made links)) (whole_links linkable qs) false)
new_allows made linkable [] k q links at few each = absurd (none-some q at)
new_allows made linkable (r ∷ rs) k q links at few each =
    let highs = map (λ (r : PortAt). r.high) (r ∷ rs) in
    let most = greatest_of highs 0 k q.high (at_map (λ (r : PortAt). r.high) (r ∷ rs) k q at) in
    let count = count_by-le-length (nat_le made) links in
    and_from _ _ (all_from_has (has_number linkable) (filter (λ j. nat_lt j made) links) (λ j there.
    each j (ltb-true j made (and_parts (has_number links j) (nat_lt j made) (sym (has_number-filter (λ j. nat_lt j made) links j) ∙ there)).1)))
    (is_between_from 0 (fold max 0 highs) (count_by (nat_le made) links) (zero-le, omega (arith, most, count, few)))

module _ (m : Model) (ids : HasIds m) (kinds linkable : List ℕ) where
  abbrev new_one : MadeInstance
  new_one = new_instance m kinds linkable

  -- its domain of what one of its types has
  new_domain : (a : ℕ) (d : AttrDecl) → IsAt (first_attributes m) a d → IsTrue (list_any (λ t. has_attribute m t a) kinds) → domain_of new_one a ≡ Some (values_of d.domain)
  new_domain a d at any =
      let entry = λ (e : ℕ × AttrDecl). if list_any (λ t. has_attribute m t e.0) kinds then Some (values_of e.1.domain) else None in
      let numbered = enumerate_from 0 (first_attributes m) in
      let here : IsAt numbered a (a, d) = at_enumerate 0 (first_attributes m) a d at ∙ ap (λ n. Some (n, d)) (zero-add a) in
      entry_at (map entry numbered) a (entry (a, d)) (at_map entry numbered a (a, d) here) ∙ ap (λ b. if b then Some (values_of d.domain) else None) any

  -- and its port
  new_port : (p : ℕ) → p < length (first_ports m) → port_of_made new_one p ≡ whole_links linkable (ports_under m kinds p)
  new_port p within =
      let entry = λ (p : ℕ). whole_links linkable (ports_under m kinds p) in
      let numbers = range_with_len 0 (length (first_ports m)) in
      let here : IsAt numbers p p = slice_get_range_with_len 0 (length (first_ports m)) p within ∙ ap Some (zero-add p) in
      entry_at (map entry numbers) p (entry p) (at_map entry numbers p p here)

  new_value : WholeHasAll m → (t k : ℕ) (a : AttrAt) (v : ℤ) → IsTrue (has_number kinds t) → IsAt (attributes_at m t) k a → IsValueOf a.domain (first_words m a.id) v
      → IsTrue (has_value_under new_one a.id v)
  new_value whole t k a v possible there is =
      let has : IsTrue (has_attribute m t a.id) = list_any_from (λ (b : AttrAt). b.id == a.id) (attributes_at m t) k a there (eq-eqb a.id a.id refl) in
      by (slice_get (first_attributes m) a.id) refl (any_of (λ u. has_attribute m u a.id) kinds t possible has)
    where
      among : Option AttrDecl → Bool
      among o = option_map_or (λ d. has_value d v) (option_map_or (λ (d : AttrDecl). Some (values_of d.domain)) o None) false

      by : (o : Option AttrDecl) → slice_get (first_attributes m) a.id ≡ o → IsTrue (list_any (λ u. has_attribute m u a.id) kinds) → IsTrue (has_value_under new_one a.id v)
      by None none any = absurd (false≢true (true_along _ _ (ap among none) (whole t k a v there is)))
      by (Some d) at any =
          option_map_or_from (λ d. has_value d v) (domain_of new_one a.id) (values_of d.domain) (new_domain a.id d at any) (true_along _ _ (ap among at) (whole t k a v there is))

  new_links : (made : ℕ) → ((j : ℕ) → j < made → IsTrue (has_number linkable j)) → (t k : ℕ) (p : PortAt) (links : List ℕ) → IsTrue (has_number kinds t)
      → IsAt (ports_at m t) k p → length links ≤ p.high → IsTrue (allows_under made new_one p.id links)
  new_links made each t k p links possible there few =
      let has : IsTrue (has_port m t p.id) = list_any_from (λ (q : PortAt). q.id == p.id) (ports_at m t) k p there (eq-eqb p.id p.id refl) in
      let q = port_there m t p.id has in
      let place = find_place (λ (r : PortAt). r.id == p.id) (ports_at m t) q.0 q.1 in
      let same_place : place.0 ≡ k = ids.ports_apart t place.0 k q.0 p place.1 there (eqb-true q.0.id p.id place.2) in
      let same : q.0 ≡ p = same_Some q.0 p (sym (subst (λ j. IsAt (ports_at m t) j q.0) same_place place.1) ∙ there) in
      let among = among_ports m kinds p.id t p possible (subst (λ r. port_of m t p.id ≡ Some r) same q.1) in
      true_along _ _ (sym (ap (λ o. option_map_or (λ d. allows d (parted made links)) o false) (new_port p.id (ids.ports_declared t p.id has))))
      (new_allows made linkable (ports_under m kinds p.id) among.0 p links among.1 few each)

  -- A new instance is wide, where it may link all instances.
  new_is_wide : WholeHasAll m → (made : ℕ) → ((j : ℕ) → j < made → IsTrue (has_number linkable j)) → IsWideOf m made new_one
  new_is_wide whole made each = record {
    values = λ t k a v unshared possible there is. new_value whole t k a v possible there is;
    links = λ t k p links unshared possible there up few. new_links made each t k p links possible there few;
  }

pub root_is_wide : RootIsWide
unfolding root
root_is_wide m valid = wide_from m (root m) each
  where
    new_wide : IsWideOf m 1 (new_instance m (leaves_under m m.root) (0 ∷ []))
    new_wide = new_is_wide m (valid_has_ids m valid) (leaves_under m m.root) (0 ∷ []) (valid_has_whole_domains m valid) 1
        (λ j low. in_range 0 1 j zero-le (omega (arith, low)))

    each : (i : ℕ) (x : MadeInstance) → IsAt (root m).made i x → IsWideOf m (number_made (root m)) x
    each zero x at = subst (IsWideOf m 1) (same_Some (new_instance m (leaves_under m m.root) (0 ∷ [])) x at) new_wide
    each (suc i) x at = absurd (none-some x at)

-- ---- narrowings

abbrev is_smaller : Change → Bool
is_smaller Smaller = true
is_smaller other = false

-- types that are left were there
left_before : (test : ℕ → Bool) (result : Change) (old new : List ℕ) → Reduces has_number length test result old new → (t : ℕ) → IsTrue (has_number new t) → IsTrue (has_number old t)
left_before test Smaller old new narrows t there = (and_parts _ _ (sym (narrows.narrows.narrowed (λ is. true≢false (ap is_smaller is)) t) ∙ there)).0
left_before test Same old new narrows t there = subst (λ ks. IsTrue (has_number ks t)) (narrows.narrows.unchanged (λ is. false≢true (ap is_smaller is))) there
left_before test Empty old new narrows t there = subst (λ ks. IsTrue (has_number ks t)) (narrows.narrows.unchanged (λ is. false≢true (ap is_smaller is))) there

-- what not all of some pass not all of more pass
not_all_of_more : (test : ℕ → Bool) (few more : List ℕ) → ((k : ℕ) → IsTrue (has_number few k) → IsTrue (has_number more k)) → list_all test few ≡ false → list_all test more ≡ false
not_all_of_more test few more within fails = false_from_ne_true _ (λ all. false≢true (sym fails ∙ all_from_has test few (λ k there. all_has test more k all (within k there))))

module _ (m : Model) (made : ℕ) (x : MadeInstance) (wide : IsWideOf m made x) where
  -- with fewer types
  fewer_kinds : (kinds : List ℕ) → ((t : ℕ) → IsTrue (has_number kinds t) → IsTrue (has_number x.kinds t)) → IsWideOf m made (record x { kinds = kinds })
  fewer_kinds kinds within = record {
    values = λ t k a v unshared possible there is.
        wide.values t k a v (not_all_of_more (λ u. has_attribute m u a.id) kinds x.kinds within unshared) (within t possible) there is;
    links = λ t k p links unshared possible there up few.
        wide.links t k p links (not_all_of_more (λ u. has_port m u p.id) kinds x.kinds within unshared) (within t possible) there up few;
  }

  -- with another domain of what all its types have
  other_domain : (a : ℕ) (after : Values) → IsTrue (list_all (λ u. has_attribute m u a) x.kinds) → IsWideOf m made (record x { domains = slice_set x.domains a (Some after) })
  other_domain a after all = record {
    values = λ t k b v unshared possible there is. elim (eqb_tells b.id a) [
      | inl same ↦ absurd (false≢true (sym unshared ∙ subst (λ j. IsTrue (list_all (λ u. has_attribute m u j) x.kinds)) (sym same.1) all))
      | inr other ↦ true_along _ _ (sym (ap (λ o. option_map_or (λ d. has_value d v) o false) (get_or-set_other x.domains a b.id (Some after) None other.1)))
          (wide.values t k b v unshared possible there is)
    ];
    links = wide.links;
  }

  -- with another port that all its types have
  other_port : (p : ℕ) (after : PortState) → IsTrue (list_all (λ u. has_port m u p) x.kinds) → IsWideOf m made (record x { ports = slice_set x.ports p (Some after) })
  other_port p after all = record {
    values = wide.values;
    links = λ t k q links unshared possible there up few. elim (eqb_tells q.id p) [
      | inl same ↦ absurd (false≢true (sym unshared ∙ subst (λ j. IsTrue (list_all (λ u. has_port m u j) x.kinds)) (sym same.1) all))
      | inr other ↦ true_along _ _ (sym (ap (λ o. option_map_or (λ d. allows d (parted made links)) o false) (get_or-set_other x.ports p q.id (Some after) None other.1)))
          (wide.links t k q links unshared possible there up few)
    ];
  }

-- a state is wide after a change of one instance that keeps that so
one_kept : (m : Model) (s : State) (i : ℕ) (f : MadeInstance → MadeInstance) → IsWide m s
    → ((x : MadeInstance) → IsAt s.made i x → IsWideOf m (number_made s) x → IsWideOf m (number_made s) (f x)) → IsWide m (with_made i f s)
one_kept m s i f wide one = wide_from m (with_made i f s) (λ j x at. subst (λ n. IsWideOf m n x) (sym (length-changed_at i f s.made)) (elim (eqb_tells j i) [
  | inl same ↦ changed x (subst (λ k. IsAt (changed_at i f s.made) k x) same.1 at) (slice_get s.made i) refl
  | inr other ↦ wide_at m s wide j x (sym (slice_get-changed_at_other i j f s.made other.1) ∙ at)
]))
  where
    changed : (x : MadeInstance) → IsAt (changed_at i f s.made) i x → (o : Option MadeInstance) → slice_get s.made i ≡ o → IsWideOf m (number_made s) x
    changed x at None none = absurd (none-some x (sym (slice_get-changed_at_same i f s.made ∙ ap (option_map f) none) ∙ at))
    changed x at (Some w) there =
        let is : f w ≡ x = same_Some (f w) x (sym (slice_get-changed_at_same i f s.made ∙ ap (option_map f) there) ∙ at) in
        subst (IsWideOf m (number_made s)) is (one w there (wide_at m s wide i w there))

module _ (m : Model) (i : ℕ) (result : Change) (old new : State) (wide : IsWide m old) where
  kinds_wide : (test : ℕ → Bool) → NarrowsKinds i test result old new → IsWide m new
  kinds_wide test narrows = subst (IsWide m) (sym narrows.others)
      (one_kept m old i (λ x. record x { kinds = kinds_at new i }) wide (λ x at is.
      fewer_kinds m (number_made old) x is (kinds_at new i) (λ t there.
      true_along _ _ (ap (λ o. has_number (option_map_or (λ (x : MadeInstance). x.kinds) o []) t) at)
      (left_before test result (kinds_at old i) (kinds_at new i) narrows.narrowed t there))))

  domain_wide : (a : ℕ) (test : ℤ → Bool) → IsTrue (all_have_attribute m old i a) → NarrowsDomain i a test result old new → IsWide m new
  domain_wide a test fit narrows = subst (IsWide m) (sym narrows.others)
      (one_kept m old i (λ x. record x { domains = slice_set x.domains a (Some narrows.after) }) wide (λ x at is.
      other_domain m (number_made old) x is a narrows.after
      (true_along _ _ (ap (λ o. option_map_or (λ (x : MadeInstance). list_all (λ t. has_attribute m t a) x.kinds) o false) at) fit)))

  port_wide : (p : ℕ) (test : PortLinks → Bool) → IsTrue (all_have_port m old i p) → NarrowsPort i p test result old new → IsWide m new
  port_wide p test fit narrows = subst (IsWide m) (sym narrows.others)
      (one_kept m old i (λ x. record x { ports = slice_set x.ports p (Some narrows.after) }) wide (λ x at is.
      other_port m (number_made old) x is p narrows.after
      (true_along _ _ (ap (λ o. option_map_or (λ (x : MadeInstance). list_all (λ t. has_port m t p) x.kinds) o false) at) fit)))

-- ---- generations

module _ (m : Model) (s : State) (ids : HasIds m) (whole : WholeHasAll m) (wide : IsWide m s) (at : PortOf) (f : IsFirstOpen m 0 s.made at) where
  abbrev n : ℕ
  n = number_made s

  abbrev after : ℕ × MadeInstance → MadeInstance
  after e = record e.1 { ports = ports_after n at e.0 e.1.ports }

  abbrev earlier : List MadeInstance
  earlier = map after (enumerate_from 0 s.made)

  abbrev one_more : MadeInstance
  one_more = new_instance m (leaves_under m (target_at m s at)) (range_with_len 0 (n + 1))

  -- the open port is one that all types of its instance have
  open_is_shared : (k : ℕ) (x : MadeInstance) (p : ℕ) → IsAt s.made k x → IsTrue ((k == at.instance) && (p == at.port)) → IsTrue (list_all (λ u. has_port m u p) x.kinds)
  open_is_shared k x p at_x here =
      let both = and_parts (k == at.instance) (p == at.port) here in
      let place : k ≡ f.skipped = let instance = eqb-true k at.instance both.0 in omega (arith, instance, f.instance) in
      let same : f.made ≡ x = same_Some f.made x (sym f.there ∙ subst (λ j. IsAt s.made j x) place at_x) in
      let kinds : f.kind ∷ [] ≡ x.kinds = sym f.sole ∙ ap (λ (y : MadeInstance). y.kinds) same in
      let id : f.port.id ≡ p = f.port_id ∙ sym (eqb-true p at.port both.1) in
      let has : IsTrue (has_port m f.kind p) = list_any_from (λ (q : PortAt). q.id == p) (ports_at m f.kind) f.place f.port f.port_there (eq-eqb f.port.id p id) in
      subst (λ ks. IsTrue (list_all (λ u. has_port m u p) ks)) kinds (and_from _ _ has refl)

  -- what was allowed still is, but by the open port
  still_allowed : (k : ℕ) (x : MadeInstance) (p : ℕ) (links : List ℕ) → ((k == at.instance) && (p == at.port)) ≡ false → IsTrue (ascends links)
      → IsTrue (allows_under n x p links) → IsTrue (allows_under (n + 1) (after (k, x)) p links)
  still_allowed k x p links elsewhere up allowed =
      let q = option_map_or_at (λ q. allows q (parted n links)) (port_of_made x p) allowed in
      let b = (k == at.instance) && (p == at.port) in
      let stands : port_of_made (after (k, x)) p ≡ Some (made_elsewhere n q.0) =
      port_after_at n at k x.ports p q.0 q.1 ∙ ap (λ b. Some ((if b then made_here n else made_elsewhere n) q.0)) elsewhere in
      option_map_or_from (λ q. allows q (parted (n + 1) links)) (port_of_made (after (k, x)) p) (made_elsewhere n q.0) stands (elsewhere_keeps n q.0 links up q.2)

  -- an instance made before is wide after
  before_is_wide : (k : ℕ) (x : MadeInstance) → IsAt s.made k x → IsWideOf m (n + 1) (after (k, x))
  before_is_wide k x at_x = record {
    values = λ t j a v unshared possible there is. (wide_at m s wide k x at_x).values t j a v unshared possible there is;
    links = λ t j p links unshared possible there up few.
        still_allowed k x p.id links (false_from_ne_true _ (λ here. false≢true (sym unshared ∙ open_is_shared k x p.id at_x here))) up
        ((wide_at m s wide k x at_x).links t j p links unshared possible there up few);
  }

  earlier_is_wide : (k : ℕ) (x : MadeInstance) → IsAt earlier k x → IsWideOf m (n + 1) x
  earlier_is_wide k x there =
      let e = map_read after (enumerate_from 0 s.made) k x there in
      let stands = enumerated_at 0 s.made k e.0 e.1 in
      let number : e.0.0 ≡ k = omega (arith, stands.0) in
      subst (IsWideOf m (n + 1)) (sym (e.2 ∙ ap (λ j. after (j, e.0.1)) number)) (before_is_wide k e.0.1 stands.1)

  more_is_wide : IsWideOf m (n + 1) one_more
  more_is_wide = new_is_wide m ids (leaves_under m (target_at m s at)) (range_with_len 0 (n + 1)) whole (n + 1) (λ j low. in_range 0 (n + 1) j zero-le (omega (arith, low)))

  long : length (earlier ++ one_more ∷ []) ≡ n + 1
  long = length-append earlier (one_more ∷ []) ∙ ap (λ k. k + 1) (length-map (enumerate_from 0 s.made) after ∙ numbered_long 0 s.made)

  generated_wide : IsWide m (generated_for m s at)
  generated_wide = wide_from m (generated_for m s at) (λ k x at_x. subst (λ j. IsWideOf m j x) (sym long) (elim (at_longer earlier one_more k x at_x) [
    | inl there ↦ earlier_is_wide k x there
    | inr last ↦ subst (IsWideOf m (n + 1)) last.1 more_is_wide
  ]))

-- so a generation keeps it
generation_keeps_wide : (m : Model) (s : State) → HasIds m → WholeHasAll m → IsTrue (can_generate m s) → IsWide m s → IsWide m (generated m s)
unfolding generated
generation_keeps_wide m s ids whole can wide = by (first_open m s) refl
  where
    by : (o : Option PortOf) → first_open m s ≡ o → IsWide m (option_map_or (generated_for m s) (first_open m s) s)
    by None none = subst (λ o. IsWide m (option_map_or (generated_for m s) o s)) (sym none) wide
    by (Some at) is = subst (λ o. IsWide m (option_map_or (generated_for m s) o s)) (sym is) (generated_wide m s ids whole wide at (first_open_is m s at is))

-- ---- the law

pub change_keeps_wide : ChangeKeepsWide
unfolding fits
change_keeps_wide m (literal.Made i) result old new valid state fit changes wide =
    subst (IsWide m) (sym changes.1) (generation_keeps_wide m old (valid_has_ids m valid) (valid_has_whole_domains m valid)
    (and_parts (i == number_made old) (can_generate m old) (and_parts ((i == number_made old) && can_generate m old) (owes_instance m old) fit).0).1 wide)
change_keeps_wide m (literal.Kind i t) result old new valid state fit changes wide = kinds_wide m i result old new wide (λ u. is_a m u t) changes
change_keeps_wide m (literal.NotKind i t) result old new valid state fit changes wide = kinds_wide m i result old new wide (λ u. not (is_a m u t)) changes
change_keeps_wide m (literal.AtMost i a n) result old new valid state fit changes wide = domain_wide m i result old new wide a _ fit changes
change_keeps_wide m (literal.AtLeast i a n) result old new valid state fit changes wide = domain_wide m i result old new wide a _ fit changes
change_keeps_wide m (literal.ValueIsNot i a n) result old new valid state fit changes wide = domain_wide m i result old new wide a _ fit changes
change_keeps_wide m (literal.Linked i p j) result old new valid state fit changes wide =
    port_wide m i result old new wide p _ (and_parts (all_have_port m old i p) (nat_lt j (number_made old)) fit).0 changes
change_keeps_wide m (literal.NotLinked i p j) result old new valid state fit changes wide =
    port_wide m i result old new wide p _ (and_parts (all_have_port m old i p) (nat_lt j (number_made old)) fit).0 changes
change_keeps_wide m (literal.LinksAtMost i p n) result old new valid state fit changes wide = absurd changes
change_keeps_wide m (literal.LinksAtLeast i p n) result old new valid state fit changes wide = absurd changes
change_keeps_wide m (literal.FreshAtMost i p from n) result old new valid state fit changes wide =
    port_wide m i result old new wide p _ (and_parts (all_have_port m old i p) (from == number_made old) fit).0 changes
change_keeps_wide m (literal.FreshAtLeast i p from n) result old new valid state fit changes wide =
    port_wide m i result old new wide p _ (and_parts (all_have_port m old i p) (from == number_made old) fit).0 changes
