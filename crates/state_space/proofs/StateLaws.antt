-- A narrowing keeps a state of a problem one.
use Rattle.std.proofs.Common.{◌≡◌, ◌≢◌, ◌⊎◌, ℕ, ◌≤◌, Bool, true, false, not, ◌&&◌, List, [], ◌∷◌, length, refl, ap, sym, ◌∙◌, subst, inl, inr, Some, None, Option, ℤ, arith, leb-true, le-leb, true≢false}
use Rattle.std.specs.Prelude.{IsTrue, ◌==◌, slice_get, slice_set, slice_index_or, nat_lt}
use Rattle.std.specs.Option.{option_map_or, option_map, option_and_then, is_some}
use Rattle.std.specs.List.{list_all, list_any}
use Rattle.std.proofs.lemmas.Bool.{and_parts, and_from, or_cases, or_left, or_right, eqb-true, eq-eqb, false≢true}
use Rattle.std.proofs.lemmas.Bool.Decides.{eqb_tells}
use Rattle.std.proofs.lemmas.Option.{same_Some, none-some}
use Rattle.std.proofs.lemmas.List.{get_or-set_other, length-set}
use Rattle.prod_model.specs.declared.model.Model.{Model}
use Rattle.prod_model.specs.Limits.{is_between, most_links}
use Rattle.prod_model.specs.Forest.{is_a, is_leaf}
use Rattle.base_laws.specs.Places.{IsAt}
use Rattle.config_value.proofs.Places.{is_between_at}
use Rattle.domain_store.specs.declared.change.Change.{Change}
use Rattle.domain_store.specs.declared.change.Change.TheVariants.{Same, Smaller, Empty}
use Rattle.config_value.specs.declared.literal.Literal.TheVariants as literal
use Rattle.state_space.specs.Made.{MadeInstance, domain_of, port_of_made}
use Rattle.state_space.specs.Sets.{has_number, Reduces}
use Rattle.state_space.specs.Values.{is_empty}
use Rattle.state_space.specs.Ports.{PortState, PortLinks, allows}
use Rattle.config_value.specs.Literals.{has_attribute, has_port}
use Rattle.state_space.specs.State.{State, IsState, IsMadeOf, IsDomainOf, IsPortOf, number_made, kinds_at, with_made, changed_at}
use Rattle.state_space.specs.Changes.{NarrowsKinds, NarrowsDomain, NarrowsPort}
use Rattle.state_space.specs.Laws.{EachKeepsState, NarrowingKeepsState}
use Rattle.state_space.proofs.Changed.{length-changed_at, slice_get-changed_at_same, slice_get-changed_at_other}
use Rattle.state_space.proofs.NarrowingLaws.{true_along, table_same}
use Rattle.state_space.proofs.PortLaws.{all_has, all_from_has}
use Rattle.state_space.proofs.EntailedAfter.{allows_most, most_links as links_at_most, possible_before}

-- ---- what a narrowing leaves was there

not_empty : Same ≢ Empty
not_empty is = true≢false (ap test is)
  where
    test : Change → Bool
    test Same = true
    test other = false

smaller_not_empty : Smaller ≢ Empty
smaller_not_empty is = true≢false (ap test is)
  where
    test : Change → Bool
    test Smaller = true
    test other = false

empty_not_smaller : Empty ≢ Smaller
empty_not_smaller is = smaller_not_empty (sym is)

narrower : {D A : Type 0} (allowed : D → A → Bool) (size : D → ℕ) (test : A → Bool) (result : Change) (old new : D) → Reduces allowed size test result old new
    → (v : A) → IsTrue (allowed new v) → IsTrue (allowed old v)
narrower allowed size test Same old new narrows v there = (and_parts _ _ (sym (narrows.narrows.narrowed not_empty v) ∙ there)).0
narrower allowed size test Smaller old new narrows v there = (and_parts _ _ (sym (narrows.narrows.narrowed smaller_not_empty v) ∙ there)).0
narrower allowed size test Empty old new narrows v there = subst (λ d. IsTrue (allowed d v)) (narrows.narrows.unchanged empty_not_smaller) there

-- types are left where there were some
some_left : (test : ℕ → Bool) (result : Change) (old new : List ℕ) → Reduces has_number length test result old new → IsTrue (not (is_empty old)) → IsTrue (not (is_empty new))
some_left test result old (t ∷ ts) narrows some = refl
some_left test Empty old [] narrows some = subst (λ ts. IsTrue (not (is_empty ts))) (sym (narrows.narrows.unchanged empty_not_smaller)) some
some_left test Same old [] narrows some = absurd (not_empty (narrows.narrows.empty.1 (λ v there passes. false≢true (narrows.narrows.narrowed not_empty v ∙ and_from _ _ there passes))))
some_left test Smaller old [] narrows some = absurd (smaller_not_empty (narrows.narrows.empty.1 (λ v there passes. false≢true (narrows.narrows.narrowed smaller_not_empty v ∙ and_from _ _ there passes))))

-- what passes of some, passes of some of more
any_of_more : (test : ℕ → Bool) (few more : List ℕ) → ((k : ℕ) → IsTrue (has_number few k) → IsTrue (has_number more k)) → IsTrue (list_any test few) → IsTrue (list_any test more)
any_of_more test [] more within h = absurd (false≢true h)
any_of_more test (x ∷ xs) more within h = elim (or_cases (test x) (list_any test xs) h) [
  | inl here ↦ found more x (within x (or_left _ _ (eq-eqb x x refl))) here
  | inr later ↦ any_of_more test xs more (λ k there. within k (or_right _ _ there)) later
]
  where
    found : (ys : List ℕ) (k : ℕ) → IsTrue (has_number ys k) → IsTrue (test k) → IsTrue (list_any test ys)
    found [] k there passes = absurd (false≢true there)
    found (y ∷ ys) k there passes = elim (or_cases (y == k) (has_number ys k) there) [
      | inl here ↦ or_left _ _ (subst (λ j. IsTrue (test j)) (sym (eqb-true y k here)) passes)
      | inr later ↦ or_right _ _ (found ys k later passes)
    ]

-- ---- tables

-- where something stood, something stands after a set
table_some : {D : Type 0} (parts : List (Option D)) (a b : ℕ) (before after : D) → slice_index_or parts a None ≡ Some before
    → IsTrue (is_some (slice_index_or parts b None)) → IsTrue (is_some (slice_index_or (slice_set parts a (Some after)) b None))
table_some parts a b before after was there = elim (eqb_tells b a) [
  | inl same ↦ subst (λ k. IsTrue (is_some (slice_index_or (slice_set parts a (Some after)) k None))) (sym same.1) (ap is_some (table_same parts a before after was))
  | inr other ↦ ap is_some (get_or-set_other parts a b (Some after) None other.1) ∙ there
]

-- what holds of each entry, and of the new one, holds of each entry after the set
table_each : {D : Type 0} (Good : ℕ → D → Type 0) (parts : List (Option D)) (a : ℕ) (before after : D) → slice_index_or parts a None ≡ Some before → Good a after
    → ((b : ℕ) (d : D) → slice_index_or parts b None ≡ Some d → Good b d) → (b : ℕ) (d : D) → slice_index_or (slice_set parts a (Some after)) b None ≡ Some d → Good b d
table_each Good parts a before after was good each b d there = elim (eqb_tells b a) [
  | inl same ↦
      let is : after ≡ d = same_Some after d (sym (subst (λ k. slice_index_or (slice_set parts a (Some after)) k None ≡ Some after) (sym same.1) (table_same parts a before after was)) ∙ there) in
      subst (λ k. Good k d) (sym same.1) (subst (Good a) is good)
  | inr other ↦ each b d (sym (get_or-set_other parts a b (Some after) None other.1) ∙ there)
]

-- ---- one instance changed

state_changed : (m : Model) (s : State) (i : ℕ) (f : MadeInstance → MadeInstance) → IsState m s
    → ((x : MadeInstance) → IsAt s.made i x → IsMadeOf m (number_made s) x → IsMadeOf m (number_made s) (f x))
    → ((x : MadeInstance) → IsAt s.made i x → (t : ℕ) → IsTrue (has_number (f x).kinds t) → IsTrue (has_number x.kinds t)) → IsState m (with_made i f s)
state_changed m s i f state one kinds = record {
  attribute_types = state.attribute_types;
  port_types = state.port_types;
  size = subst (λ n. IsTrue (is_between 1 m.instances n)) (sym long) state.size;
  root = all_from_has (λ t. is_a m t m.root) (kinds_at (with_made i f s) 0) (λ t there.
      all_has (λ t. is_a m t m.root) (kinds_at s 0) t state.root (rooted t (eqb_tells 0 i) there));
  each = λ j x at. subst (λ n. IsMadeOf m n x) (sym long) (elim (eqb_tells j i) [
    | inl same ↦ changed j x same.1 at (slice_get s.made i) refl
    | inr other ↦ state.each j x (sym (slice_get-changed_at_other i j f s.made other.1) ∙ at)
  ]);
}
  where
    long : length (changed_at i f s.made) ≡ length s.made
    long = length-changed_at i f s.made

    changed : (j : ℕ) (x : MadeInstance) → j ≡ i → IsAt (changed_at i f s.made) j x → (o : Option MadeInstance) → slice_get s.made i ≡ o → IsMadeOf m (number_made s) x
    changed j x same at None none = absurd (none-some x (sym (slice_get-changed_at_same i f s.made ∙ ap (option_map f) none) ∙ subst (λ k. IsAt (changed_at i f s.made) k x) same at))
    changed j x same at (Some w) there =
        let is : f w ≡ x = same_Some (f w) x (sym (slice_get-changed_at_same i f s.made ∙ ap (option_map f) there) ∙ subst (λ k. IsAt (changed_at i f s.made) k x) same at) in
        subst (IsMadeOf m (number_made s)) is (one w there (state.each i w there))

    of_first : (t : ℕ) → 0 ≡ i → (o : Option MadeInstance) → slice_get s.made 0 ≡ o → IsTrue (has_number (option_map_or (λ x. x.kinds) (option_map f o) []) t) → IsTrue (has_number (option_map_or (λ x. x.kinds) o []) t)
    of_first t same None none there = there
    of_first t same (Some x) at there = kinds x (subst (λ k. IsAt s.made k x) same at) t there

    rooted : (t : ℕ) → (((0 == i) ≡ true) × (0 ≡ i)) ⊎ (((0 == i) ≡ false) × (0 ≢ i)) → IsTrue (has_number (kinds_at (with_made i f s) 0) t) → IsTrue (has_number (kinds_at s 0) t)
    rooted t (inl same) there = of_first t same.1 (slice_get s.made 0) refl
        (true_along _ _ (ap (λ o. has_number (option_map_or (λ x. x.kinds) o []) t) (subst (λ k. slice_get (changed_at i f s.made) k ≡ option_map f (slice_get s.made k)) (sym same.1) (slice_get-changed_at_same i f s.made))) there)
    rooted t (inr other) there = true_along _ _ (ap (λ o. has_number (option_map_or (λ x. x.kinds) o []) t) (slice_get-changed_at_other i 0 f s.made other.1)) there

-- a port that allows the most links of another bounds the later ones as high
most_later : (q r : PortState) → IsTrue (allows q (links_at_most r)) → r.fresh_high ≤ q.fresh_high
most_later q r most = (is_between_at q.fresh_low q.fresh_high r.fresh_high
    (and_parts (list_all (has_number (links_at_most r).to_made) q.required && list_all (has_number q.possible) (links_at_most r).to_made) (is_between q.fresh_low q.fresh_high r.fresh_high) most).1).1

-- ---- the three narrowings

module _ (m : Model) (i : ℕ) (result : Change) (old new : State) (state : IsState m old) where
  kinds_state : (test : ℕ → Bool) → NarrowsKinds i test result old new → IsState m new
  kinds_state test narrows = subst (IsState m) (sym narrows.others)
      (state_changed m old i (λ x. record x { kinds = kinds_at new i }) state (λ x at is. record {
        formed = narrows.formed;
        each_attribute = is.each_attribute;
        each_port = is.each_port;
        some = some_left test result x.kinds (kinds_at new i) (of x at) is.some;
        leaves = all_from_has (is_leaf m) (kinds_at new i) (λ t there. all_has (is_leaf m) x.kinds t is.leaves (within x at t there));
        has_domains = λ a any. is.has_domains a (any_of_more (λ t. has_attribute m t a) (kinds_at new i) x.kinds (within x at) any);
        has_ports = λ p any. is.has_ports p (any_of_more (λ t. has_port m t p) (kinds_at new i) x.kinds (within x at) any);
        domains = is.domains;
        ports = is.ports;
      }) within)
    where
      of : (x : MadeInstance) → IsAt old.made i x → Reduces has_number length test result x.kinds (kinds_at new i)
      of x at = subst (λ ks. Reduces has_number length test result ks (kinds_at new i)) (ap (λ o. option_map_or (λ x. x.kinds) o []) at) narrows.narrowed

      within : (x : MadeInstance) → IsAt old.made i x → (t : ℕ) → IsTrue (has_number (kinds_at new i) t) → IsTrue (has_number x.kinds t)
      within x at = narrower has_number length test result x.kinds (kinds_at new i) (of x at)

  domain_state : (a : ℕ) (test : ℤ → Bool) → NarrowsDomain i a test result old new → IsState m new
  domain_state a test narrows = subst (IsState m) (sym narrows.others)
      (state_changed m old i (λ x. record x { domains = slice_set x.domains a (Some narrows.after) }) state (λ x at is.
      let was : domain_of x a ≡ Some narrows.before = sym (ap (option_and_then (λ x. domain_of x a)) at) ∙ narrows.was in
      let good : IsDomainOf m a narrows.after = record {
        formed = narrows.formed;
        form = narrows.form ∙ (is.domains a narrows.before was).form;
        whole = λ v there. (is.domains a narrows.before was).whole v (narrower _ _ test result narrows.before narrows.after narrows.narrowed v there);
      } in
      record {
        formed = is.formed;
        each_attribute = length-set x.domains a (Some narrows.after) ∙ is.each_attribute;
        each_port = is.each_port;
        some = is.some;
        leaves = is.leaves;
        has_domains = λ b any. table_some x.domains a b narrows.before narrows.after was (is.has_domains b any);
        has_ports = is.has_ports;
        domains = table_each (IsDomainOf m) x.domains a narrows.before narrows.after was good is.domains;
        ports = is.ports;
      }) (λ x at t there. there))

  port_state : (p : ℕ) (test : PortLinks → Bool) → NarrowsPort i p test result old new → IsState m new
  port_state p test narrows = subst (IsState m) (sym narrows.others)
      (state_changed m old i (λ x. record x { ports = slice_set x.ports p (Some narrows.after) }) state (λ x at is.
      let was : port_of_made x p ≡ Some narrows.before = sym (ap (option_and_then (λ x. port_of_made x p)) at) ∙ narrows.was in
      let old_port = is.ports p narrows.before was in
      let most : IsTrue (allows narrows.before (links_at_most narrows.after)) =
      narrower _ _ test result narrows.before narrows.after narrows.narrowed (links_at_most narrows.after) (allows_most narrows.after narrows.formed) in
      let high : narrows.after.fresh_high ≤ narrows.before.fresh_high = most_later narrows.before narrows.after most in
      let good : IsPortOf (number_made old) narrows.after = record {
        formed = narrows.formed;
        to_made = all_from_has (λ j. nat_lt j (number_made old)) narrows.after.possible (λ j there.
            all_has (λ j. nat_lt j (number_made old)) narrows.before.possible j old_port.to_made (possible_before narrows.before narrows.after most j there));
        few =
            let limit : narrows.before.fresh_high ≤ most_links = leb-true narrows.before.fresh_high most_links old_port.few in
            le-leb narrows.after.fresh_high most_links (omega (arith, high, limit));
      } in
      record {
        formed = is.formed;
        each_attribute = is.each_attribute;
        each_port = length-set x.ports p (Some narrows.after) ∙ is.each_port;
        some = is.some;
        leaves = is.leaves;
        has_domains = is.has_domains;
        has_ports = λ b any. table_some x.ports p b narrows.before narrows.after was (is.has_ports b any);
        domains = is.domains;
        ports = table_each (λ b. IsPortOf (number_made old)) x.ports p narrows.before narrows.after was good is.ports;
      }) (λ x at t there. there))

pub each_keeps_state : EachKeepsState
each_keeps_state m i result old new state = (kinds_state m i result old new state, domain_state m i result old new state, port_state m i result old new state)

pub narrowing_keeps_state : NarrowingKeepsState
narrowing_keeps_state m (literal.Made i) result old new state narrowing changes = absurd (false≢true narrowing)
narrowing_keeps_state m (literal.Kind i t) result old new state narrowing changes = kinds_state m i result old new state (λ u. is_a m u t) changes
narrowing_keeps_state m (literal.NotKind i t) result old new state narrowing changes = kinds_state m i result old new state (λ u. not (is_a m u t)) changes
narrowing_keeps_state m (literal.AtMost i a n) result old new state narrowing changes = domain_state m i result old new state a _ changes
narrowing_keeps_state m (literal.AtLeast i a n) result old new state narrowing changes = domain_state m i result old new state a _ changes
narrowing_keeps_state m (literal.ValueIsNot i a n) result old new state narrowing changes = domain_state m i result old new state a _ changes
narrowing_keeps_state m (literal.Linked i p j) result old new state narrowing changes = port_state m i result old new state p _ changes
narrowing_keeps_state m (literal.NotLinked i p j) result old new state narrowing changes = port_state m i result old new state p _ changes
narrowing_keeps_state m (literal.LinksAtMost i p n) result old new state narrowing changes = absurd changes
narrowing_keeps_state m (literal.LinksAtLeast i p n) result old new state narrowing changes = absurd changes
narrowing_keeps_state m (literal.FreshAtMost i p from n) result old new state narrowing changes = port_state m i result old new state p _ changes
narrowing_keeps_state m (literal.FreshAtLeast i p from n) result old new state narrowing changes = port_state m i result old new state p _ changes
