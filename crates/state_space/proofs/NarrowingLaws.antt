-- What a narrowing leaves of the covered configurations.
use Rattle.std.proofs.Common.{◌≡◌, ◌≢◌, ◌↔◌, ℕ, ◌≤◌, ◌<◌, Bool, true, false, not, ◌&&◌, ◌||◌, List, length, refl, ap, sym, ◌∙◌, subst, inl, inr, Some, None, Option, zero, suc, [], ◌∷◌, get_or, ℤ}
use Rattle.std.specs.Prelude.{IsTrue, slice_get, slice_index_or, slice_set}
use Rattle.std.specs.Option.{option_map_or, option_and_then, option_map}
use Rattle.std.proofs.lemmas.Bool.{and_parts, and_from, false≢true}
use Rattle.std.proofs.lemmas.Bool.Decides.{eqb_tells}
use Rattle.std.proofs.lemmas.Option.{same_Some, none-some, slice_get-get_or, slice_get_within}
use Rattle.std.proofs.lemmas.List.{get_or-set_other}
use Rattle.prod_model.specs.declared.model.Model.{Model}
use Rattle.config_value.specs.declared.configuration.Instance.{Instance}
use Rattle.config_value.specs.Value.{value_of, links_of, at_instance}
use Rattle.base_laws.specs.Places.{IsAt}
use Rattle.state_space.specs.Made.{MadeInstance, domain_of, port_of_made}
use Rattle.state_space.specs.Values.{Values, has_value}
use Rattle.state_space.specs.Ports.{PortState, PortLinks, parted, allows}
use Rattle.state_space.specs.Sets.{has_number}
use Rattle.config_value.specs.Literals.{has_attribute, has_port}
use Rattle.state_space.specs.State.{State, number_made, kinds_at, with_made, changed_at}
use Rattle.state_space.specs.Covers.{CoversInstance, Covers, has_value_under, allows_under}
use Rattle.state_space.specs.Laws.{KindsNarrowed, DomainNarrowed, PortNarrowed}
use Rattle.state_space.proofs.Changed.{length-changed_at, slice_get-changed_at_same, slice_get-changed_at_other}

-- the same fact along an equation of tests
pub true_along : (a b : Bool) → a ≡ b → IsTrue a → IsTrue b
true_along a b same h = sym same ∙ h

-- ---- tables of options

-- what stands at a place where something stood and is set
pub table_same : {D : Type 0} (parts : List (Option D)) (a : ℕ) (before after : D) → slice_index_or parts a None ≡ Some before
    → slice_index_or (slice_set parts a (Some after)) a None ≡ Some after
table_same [] a before after was = absurd (none-some before was)
table_same (p ∷ ps) zero before after was = refl
table_same (p ∷ ps) (suc a) before after was = table_same ps a before after was

-- a test of the entry at a place, after it is set to one that passes what the old one and another test pass
pub table_test : {D : Type 0} (test : D → Bool) (passes : Bool) (parts : List (Option D)) (a : ℕ) (before after : D) → slice_index_or parts a None ≡ Some before
    → test after ≡ (test before && passes)
    → option_map_or test (slice_index_or (slice_set parts a (Some after)) a None) false ≡ (option_map_or test (slice_index_or parts a None) false && passes)
table_test test passes parts a before after was kept =
    ap (λ o. option_map_or test o false) (table_same parts a before after was) ∙ (kept ∙ ap (λ o. option_map_or test o false && passes) (sym was))

-- and of every other entry
pub table_other : {D : Type 0} (test : D → Bool) (parts : List (Option D)) (a b : ℕ) (after : D) → b ≢ a
    → option_map_or test (slice_index_or (slice_set parts a (Some after)) b None) false ≡ option_map_or test (slice_index_or parts b None) false
table_other test parts a b after other = ap (λ o. option_map_or test o false) (get_or-set_other parts a b (Some after) None other)

-- ---- one instance

-- an instance passes where it has what an id names only if that passes
abbrev lacks_or : Bool → Bool → Bool
lacks_or there passes = not there || passes

-- where it is there it passes
passes_there : (there passes : Bool) → IsTrue (lacks_or there passes) → IsTrue there → IsTrue passes
passes_there true passes h there = h
passes_there false passes h there = absurd cc

-- it passes if it does where it is there
lacks_or_from : (there passes : Bool) → (IsTrue there → IsTrue passes) → IsTrue (lacks_or there passes)
lacks_or_from true passes h = h refl
lacks_or_from false passes h = refl

module _ (m : Model) (made : ℕ) (x : MadeInstance) (y : Instance) where
  kinds_of_instance : (kinds : List ℕ) (test : ℕ → Bool) → ((t : ℕ) → has_number kinds t ≡ (has_number x.kinds t && test t))
      → CoversInstance m made (record x { kinds = kinds }) y ↔ (CoversInstance m made x y × IsTrue (test y.kind))
  kinds_of_instance kinds test kept = (
    λ h. let both = and_parts _ _ (true_along _ _ (kept y.kind) h.kind) in (record { kind = both.0; values = h.values; links = h.links }, both.1),
    λ h. record { kind = true_along _ _ (sym (kept y.kind)) (and_from _ _ h.0.kind h.1); values = h.0.values; links = h.0.links },
  )

  domain_of_instance : (a : ℕ) (test : ℤ → Bool) (before after : Values) → domain_of x a ≡ Some before → ((v : ℤ) → has_value after v ≡ (has_value before v && test v))
      → CoversInstance m made (record x { domains = slice_set x.domains a (Some after) }) y
      ↔ (CoversInstance m made x y × IsTrue (not (has_attribute m y.kind a) || test (value_of m y a)))
  domain_of_instance a test before after was kept = (
    λ h. (
      record {
        kind = h.kind;
        values = λ b there. elim (eqb_tells b a) [
          | inl same ↦ old b same.1 (h.values b there)
          | inr other ↦ true_along _ _ (table_other (λ d. has_value d (value_of m y b)) x.domains a b after other.1) (h.values b there)
        ];
        links = h.links;
      },
      lacks_or_from _ _ (λ there. (and_parts _ _ (true_along _ _ (now a) (h.values a there))).1),
    ),
    λ h. record {
      kind = h.0.kind;
      values = λ b there. elim (eqb_tells b a) [
        | inl same ↦ new b same.1 there (h.0.values b there) h.1
        | inr other ↦ true_along _ _ (sym (table_other (λ d. has_value d (value_of m y b)) x.domains a b after other.1)) (h.0.values b there)
      ];
      links = h.0.links;
    },
  )
    where
      x' : MadeInstance
      x' = record x { domains = slice_set x.domains a (Some after) }

      now : (b : ℕ) → has_value_under x' a (value_of m y b) ≡ (has_value_under x a (value_of m y b) && test (value_of m y b))
      now b = table_test (λ d. has_value d (value_of m y b)) (test (value_of m y b)) x.domains a before after was (kept (value_of m y b))

      old : (b : ℕ) → b ≡ a → IsTrue (has_value_under x' b (value_of m y b)) → IsTrue (has_value_under x b (value_of m y b))
      old b same = subst (λ k. IsTrue (has_value_under x' k (value_of m y b)) → IsTrue (has_value_under x k (value_of m y b))) (sym same)
          (λ h. (and_parts _ _ (true_along _ _ (now b) h)).0)

      new : (b : ℕ) → b ≡ a → IsTrue (has_attribute m y.kind b) → IsTrue (has_value_under x b (value_of m y b))
          → IsTrue (not (has_attribute m y.kind a) || test (value_of m y a)) → IsTrue (has_value_under x' b (value_of m y b))
      new b same there allowed passes =
          subst (λ k. IsTrue (has_attribute m y.kind k) → IsTrue (has_value_under x k (value_of m y k)) → IsTrue (has_value_under x' k (value_of m y k))) (sym same)
          (λ there allowed. true_along _ _ (sym (now a)) (and_from _ _ allowed (passes_there _ _ passes there))) there allowed

  port_of_instance : (p : ℕ) (test : PortLinks → Bool) (before after : PortState) → port_of_made x p ≡ Some before → ((l : PortLinks) → allows after l ≡ (allows before l && test l))
      → CoversInstance m made (record x { ports = slice_set x.ports p (Some after) }) y
      ↔ (CoversInstance m made x y × IsTrue (not (has_port m y.kind p) || test (parted made (links_of m y p))))
  port_of_instance p test before after was kept = (
    λ h. (
      record {
        kind = h.kind;
        values = h.values;
        links = λ b there. elim (eqb_tells b p) [
          | inl same ↦ old b same.1 (h.links b there)
          | inr other ↦ true_along _ _ (table_other (λ q. allows q (parted made (links_of m y b))) x.ports p b after other.1) (h.links b there)
        ];
      },
      lacks_or_from _ _ (λ there. (and_parts _ _ (true_along _ _ (now p) (h.links p there))).1),
    ),
    λ h. record {
      kind = h.0.kind;
      values = h.0.values;
      links = λ b there. elim (eqb_tells b p) [
        | inl same ↦ new b same.1 there (h.0.links b there) h.1
        | inr other ↦ true_along _ _ (sym (table_other (λ q. allows q (parted made (links_of m y b))) x.ports p b after other.1)) (h.0.links b there)
      ];
    },
  )
    where
      x' : MadeInstance
      x' = record x { ports = slice_set x.ports p (Some after) }

      links : ℕ → PortLinks
      links b = parted made (links_of m y b)

      now : (b : ℕ) → allows_under made x' p (links_of m y b) ≡ (allows_under made x p (links_of m y b) && test (links b))
      now b = table_test (λ q. allows q (links b)) (test (links b)) x.ports p before after was (kept (links b))

      old : (b : ℕ) → b ≡ p → IsTrue (allows_under made x' b (links_of m y b)) → IsTrue (allows_under made x b (links_of m y b))
      old b same = subst (λ k. IsTrue (allows_under made x' k (links_of m y b)) → IsTrue (allows_under made x k (links_of m y b))) (sym same)
          (λ h. (and_parts _ _ (true_along _ _ (now b) h)).0)

      new : (b : ℕ) → b ≡ p → IsTrue (has_port m y.kind b) → IsTrue (allows_under made x b (links_of m y b))
          → IsTrue (not (has_port m y.kind p) || test (links p)) → IsTrue (allows_under made x' b (links_of m y b))
      new b same there allowed passes =
          subst (λ k. IsTrue (has_port m y.kind k) → IsTrue (allows_under made x k (links_of m y k)) → IsTrue (allows_under made x' k (links_of m y k))) (sym same)
          (λ there allowed. true_along _ _ (sym (now p)) (and_from _ _ allowed (passes_there _ _ passes there))) there allowed

-- ---- one instance of a state

-- what is known at a place, as a test that holds where there is no instance
at_instance_at : (c : List Instance) (test : Instance → Bool) (i : ℕ) (y : Instance) → IsTrue (at_instance c test true i) → IsAt c i y → IsTrue (test y)
at_instance_at c test i y h at = true_along _ _ (ap (λ o. option_map_or test o true) at) h

at_instance_from : (c : List Instance) (test : Instance → Bool) (i : ℕ) → ((y : Instance) → IsAt c i y → IsTrue (test y)) → IsTrue (at_instance c test true i)
at_instance_from c test i h = by (slice_get c i) refl
  where
    by : (o : Option Instance) → slice_get c i ≡ o → IsTrue (option_map_or test o true)
    by None at = refl
    by (Some y) at = h y at

-- Where a change of instance i leaves those that pass, so does the change of the state.
one_changed : (m : Model) (i : ℕ) (f : MadeInstance → MadeInstance) (test : Instance → Bool) (s : State) (c : List Instance) → i < number_made s
    → ((x : MadeInstance) (y : Instance) → IsAt s.made i x → CoversInstance m (number_made s) (f x) y ↔ (CoversInstance m (number_made s) x y × IsTrue (test y)))
    → Covers m (with_made i f s) c ↔ (Covers m s c × IsTrue (at_instance c test true i))
one_changed m i f test s c within one = (
  λ h. (
    record {
      spelled = h.spelled;
      enough = subst (λ n. n ≤ length c) long h.enough;
      each = λ k x y at_x at_y. elim (eqb_tells k i) [
        | inl same ↦ ((one x y (subst (λ j. IsAt s.made j x) same.1 at_x)).0 (there h k y at_y (f x) (changed k x same.1 at_x))).0
        | inr other ↦ there h k y at_y x (slice_get-changed_at_other i k f s.made other.1 ∙ at_x)
      ];
    },
    at_instance_from c test i (λ y at_y. by_made h y at_y (slice_get s.made i) refl),
  ),
  λ h. record {
    spelled = h.0.spelled;
    enough = subst (λ n. n ≤ length c) (sym long) h.0.enough;
    each = λ k x y at_x at_y. subst (λ n. CoversInstance m n x y) (sym long) (elim (eqb_tells k i) [
      | inl same ↦ again h k x y same.1 at_x at_y (slice_get s.made k) refl
      | inr other ↦ h.0.each k x y (sym (slice_get-changed_at_other i k f s.made other.1) ∙ at_x) at_y
    ]);
  },
)
  where
    long : length (changed_at i f s.made) ≡ length s.made
    long = length-changed_at i f s.made

    changed : (k : ℕ) (x : MadeInstance) → k ≡ i → IsAt s.made k x → IsAt (changed_at i f s.made) k (f x)
    changed k x same at = subst (λ j. IsAt s.made j x → IsAt (changed_at i f s.made) j (f x)) (sym same)
        (λ at. slice_get-changed_at_same i f s.made ∙ ap (option_map f) at) at

    there : Covers m (with_made i f s) c → (k : ℕ) (y : Instance) → IsAt c k y → (x : MadeInstance) → IsAt (changed_at i f s.made) k x → CoversInstance m (number_made s) x y
    there h k y at_y x at_x = subst (λ n. CoversInstance m n x y) long (h.each k x y at_x at_y)

    by_made : Covers m (with_made i f s) c → (y : Instance) → IsAt c i y → (o : Option MadeInstance) → slice_get s.made i ≡ o → IsTrue (test y)
    by_made h y at_y None at = absurd (none_within at)
      where
        none_within : slice_get s.made i ≡ None → ⊥
        none_within none = none-some _ (sym none ∙ stands)
          where
            stands : slice_get s.made i ≡ Some (get_or s.made i (f (record { kinds = []; domains = []; ports = [] })))
            stands = slice_get-get_or s.made i (f (record { kinds = []; domains = []; ports = [] })) within
    by_made h y at_y (Some x) at = ((one x y at).0 (there h i y at_y (f x) (changed i x refl at))).1

    again : (Covers m s c × IsTrue (at_instance c test true i)) → (k : ℕ) (x : MadeInstance) (y : Instance) → k ≡ i → IsAt (changed_at i f s.made) k x → IsAt c k y
        → (o : Option MadeInstance) → slice_get s.made k ≡ o → CoversInstance m (number_made s) x y
    again h k x y same at_x at_y None at = absurd (none-some x (sym (same_none same at) ∙ at_x))
      where
        same_none : k ≡ i → slice_get s.made k ≡ None → slice_get (changed_at i f s.made) k ≡ None
        same_none same none = subst (λ j. slice_get s.made j ≡ None → slice_get (changed_at i f s.made) j ≡ None) (sym same)
            (λ none. slice_get-changed_at_same i f s.made ∙ ap (option_map f) none) none
    again h k x y same at_x at_y (Some w) at =
        let is : f w ≡ x = same_Some (f w) x (sym (changed k w same at) ∙ at_x) in
        let passes : IsTrue (test y) = at_instance_at c test i y h.1 (subst (λ j. IsAt c j y) same at_y) in
        subst (λ z. CoversInstance m (number_made s) z y) is ((one w y (subst (λ j. IsAt s.made j w) same at)).1 (h.0.each k w y at at_y, passes))

-- ---- the three narrowings

-- a place at which something stands is within the list
made_there : {D : Type 0} (f : MadeInstance → Option D) (xs : List MadeInstance) (i : ℕ) (d : D) → option_and_then f (slice_get xs i) ≡ Some d → i < length xs
made_there f xs i d was = by (slice_get xs i) refl
  where
    by : (o : Option MadeInstance) → slice_get xs i ≡ o → i < length xs
    by None at = absurd (none-some d (sym (ap (option_and_then f) at) ∙ was))
    by (Some x) at = slice_get_within xs i x at

pub kinds_narrowed : KindsNarrowed
kinds_narrowed m i test result old new c narrows some =
    subst (λ s. Covers m s c ↔ (Covers m old c × IsTrue (at_instance c (λ y. test y.kind) true i))) (sym narrows.others)
    (one_changed m i (λ x. record x { kinds = kinds_at new i }) (λ y. test y.kind) old c (within (slice_get old.made i) refl) (λ x y at.
    kinds_of_instance m (number_made old) x y (kinds_at new i) test (λ t.
    narrows.narrowed.narrows.narrowed some t ∙ ap (λ o. has_number (option_map_or (λ x. x.kinds) o []) t && test t) at)))
  where
    within : (o : Option MadeInstance) → slice_get old.made i ≡ o → i < number_made old
    within None at = absurd (some (narrows.narrowed.narrows.empty.1 (λ t there passes.
        false≢true (sym (ap (λ o. has_number (option_map_or (λ x. x.kinds) o []) t) at) ∙ there))))
    within (Some x) at = slice_get_within old.made i x at

pub domain_narrowed : DomainNarrowed
domain_narrowed m i a test result old new c narrows some =
    subst (λ s. Covers m s c ↔ (Covers m old c × IsTrue (at_instance c passes true i))) (sym narrows.others)
    (one_changed m i (λ x. record x { domains = slice_set x.domains a (Some narrows.after) }) passes old c
    (made_there (λ x. domain_of x a) old.made i narrows.before narrows.was) (λ x y at.
    domain_of_instance m (number_made old) x y a test narrows.before narrows.after
    (sym (ap (option_and_then (λ x. domain_of x a)) at) ∙ narrows.was) (narrows.narrowed.narrows.narrowed some)))
  where
    passes : Instance → Bool
    passes y = not (has_attribute m y.kind a) || test (value_of m y a)

pub port_narrowed : PortNarrowed
port_narrowed m i p test result old new c narrows some =
    subst (λ s. Covers m s c ↔ (Covers m old c × IsTrue (at_instance c passes true i))) (sym narrows.others)
    (one_changed m i (λ x. record x { ports = slice_set x.ports p (Some narrows.after) }) passes old c
    (made_there (λ x. port_of_made x p) old.made i narrows.before narrows.was) (λ x y at.
    port_of_instance m (number_made old) x y p test narrows.before narrows.after
    (sym (ap (option_and_then (λ x. port_of_made x p)) at) ∙ narrows.was) (narrows.narrowed.narrows.narrowed some)))
  where
    passes : Instance → Bool
    passes y = not (has_port m y.kind p) || test (parted (number_made old) (links_of m y p))
