-- Loops over the members of a set, and the links of a port as sets.
use Rattle.std.proofs.Common.{◌≡◌, ℕ, ◌+◌, ◌<◌, ◌∙◌, ap, sym, subst, Bool, true, false, ◌&&◌, ◌||◌, ◌==◌, not, nat_lt, List, Some, inl, inr, refl, ltb-true, arith}
use Rattle.std.specs.Prelude.{◌↔◌, IsTrue, slice_get}
use Rattle.std.specs.List.{list_all, list_any}
use Rattle.std.proofs.lemmas.Bool.{and_parts, and_from, or_cases, or_left, or_right, false≢true, false_from_ne_true, cases_lt}
use Rattle.base_laws.proofs.Tests.{list_all_from, list_any_at, list_any_from}
use Rattle.instance_set.specs.declared.set.InstanceSet.{InstanceSet}
use Rattle.instance_set.specs.InstanceSets.{is_member, IsWithin, IsLeastFrom}
use Rattle.instance_set.proofs.Walks.{HasFoundBelow, found_with, found_without}
use Rattle.prod_model.specs.declared.model.Model.{Model}
use Rattle.config_value.proofs.ToldLaws.{and_then_some}
use Rattle.state_space.specs.Made.{port_of_made}
use Rattle.state_space.specs.Ports.{PortState}
use Rattle.state_space.specs.Sets.{has_number}
use Rattle.state_space.specs.State.{State, IsState, IsPortOf, number_made, port_at}
use Rattle.state_space.proofs.PortLaws.{all_has}
use Rattle.partial_state.specs.Masks.{instances_of}
use Rattle.partial_state.specs.Views.{state_of_port}
use Rattle.partial_state.proofs.PortNarrowings.{has_instance}
use Rattle.port_wildcards.specs.declared.port_domain.PortDomain.{PortDomain}
use Rattle.state_values.specs.Sights.{port_state}
use Rattle.state_values.specs.steps.Truths.{links_only, links_some}
use Rattle.state_values.proofs.TallySeen.{port_is}

pub bool_same : (a b : Bool) → (IsTrue a → IsTrue b) → (IsTrue b → IsTrue a) → a ≡ b
bool_same true true there back = refl
bool_same true false there back = absurd (false≢true (there refl))
bool_same false true there back = absurd (false≢true (back refl))
bool_same false false there back = refl

-- one more member that passes or not
pub found_next : (passes : ℕ → Bool) (among : InstanceSet) (members : (k : ℕ) → passes k ≡ true → IsTrue (is_member among k)) (from i : ℕ) (found next : InstanceSet) (v : Bool)
    → HasFoundBelow passes from found → IsLeastFrom among from (Some i) → passes i ≡ v → ((k : ℕ) → is_member next k ≡ (is_member found k || ((k == i) && v)))
    → HasFoundBelow passes (i + 1) next
found_next passes among members from i found next true before least right more =
    found_with passes among members from i found next before least right (λ k. more k ∙ (grind arith))
found_next passes among members from i found next false before least wrong more = λ k.
    more k ∙ (grind arith) ∙ found_without passes among members from i found before least wrong k

-- ---- sets as lists

in_list : (ks : List ℕ) (i k : ℕ) → slice_get ks i ≡ Some k → IsTrue (has_number ks k)
in_list ks i k at = list_any_from (λ j. j == k) ks i k at (let e : (k == k) ≡ true = grind arith in e)

-- each number of a list passes
pub all_of_numbers : (test : ℕ → Bool) (ks : List ℕ) → ((k : ℕ) → IsTrue (has_number ks k) → IsTrue (test k)) → IsTrue (list_all test ks)
all_of_numbers test ks each = list_all_from test ks (λ i k at. each k (in_list ks i k at))

pub some_of_numbers : (test : ℕ → Bool) (ks : List ℕ) → IsTrue (list_any test ks) → (k : ℕ) × IsTrue (has_number ks k) × IsTrue (test k)
some_of_numbers test ks some = let found = list_any_at test ks some in (found.1, in_list ks found.0 found.1 found.2, found.3)

pub number_passes : (test : ℕ → Bool) (ks : List ℕ) (k : ℕ) → IsTrue (has_number ks k) → IsTrue (test k) → IsTrue (list_any test ks)
number_passes test ks k there pass =
    let found = list_any_at (λ j. j == k) ks there in
    let same : found.1 ≡ k = (let e = found.3 in grind arith) in
    list_any_from test ks found.0 found.1 found.2 (subst (λ (n : ℕ). IsTrue (test n)) (sym same) pass)

pub within_list : (set into : InstanceSet) → IsWithin set into → IsTrue (list_all (is_member into) (instances_of set))
within_list set into within = all_of_numbers (is_member into) (instances_of set) (λ k there. within k (sym (has_instance set k) ∙ there))

pub list_within : (set into : InstanceSet) → IsTrue (list_all (is_member into) (instances_of set)) → IsWithin set into
list_within set into all j member = all_has (is_member into) (instances_of set) j all (has_instance set j ∙ member)

-- ---- ports of a state

module _ (m : Model) (s : State) (state : IsState m s) (i p : ℕ) (q : PortState) (at : port_at s i p ≡ Some q) where
  -- what a port may link in a state of a problem
  pub port_formed : IsPortOf (number_made s) q
  port_formed = let made = and_then_some (λ y. port_of_made y p) (slice_get s.made i) q at in (state.each i made.0 made.1).ports p q made.2

  pub possible_made : (j : ℕ) → IsTrue (has_number q.possible j) → j < number_made s
  possible_made j there = ltb-true j (number_made s) (all_has (λ j. nat_lt j (number_made s)) q.possible j port_formed.to_made there)

-- ---- a loop over the members of a set

-- the instances that a port may link from members below a number
pub record HasLinked (s : State) (among : InstanceSet) (p from : ℕ) (linked : InstanceSet) : Type 0 where
  pub made : (j : ℕ) → IsTrue (is_member linked j) → j < number_made s
  pub all : (i j : ℕ) → i < from → IsTrue (is_member among i) → IsTrue (has_number (port_state s i p).possible j) → IsTrue (is_member linked j)

module _ (m : Model) (s : State) (state : IsState m s) (among : InstanceSet) (p from i : ℕ) (linked next : InstanceSet) (q : PortDomain)
    (before : HasLinked s among p from linked) (least : IsLeastFrom among from (Some i)) (at : port_at s i p ≡ Some (state_of_port q))
    (more : (j : ℕ) → is_member next j ≡ (is_member linked j || is_member q.possible j)) where
  -- one more member
  pub linked_next : HasLinked s among p (i + 1) next
  linked_next = record {
    made = λ j there. elim (or_cases (is_member linked j) (is_member q.possible j) (sym (more j) ∙ there)) [
      | inl old ↦ before.made j old
      | inr new ↦ possible_made m s state i p (state_of_port q) at j (has_instance q.possible j ∙ new)
    ];
    all = λ k j below member possible. more j ∙ elim (cases_lt k from) [
      | inl lower ↦ or_left (is_member linked j) (is_member q.possible j) (before.all k j lower member possible)
      | inr upper ↦ elim (cases_lt k i) [
        | inl between ↦ absurd (least.2 k upper between member)
        | inr past ↦
            (let same : k ≡ i = omega arith in
            let here : IsTrue (has_number (port_state s i p).possible j) = subst (λ (n : ℕ). IsTrue (has_number (port_state s n p).possible j)) same possible in
            or_right (is_member linked j) (is_member q.possible j) (sym (has_instance q.possible j) ∙ sym (ap (λ (x : PortState). has_number x.possible j) (port_is s i p q at)) ∙ here))
      ]
    ];
  }

-- ---- what is stored

pub within_same : (set into : InstanceSet) (b : Bool) → (IsTrue b ↔ IsWithin set into) → b ≡ list_all (is_member into) (instances_of set)
within_same set into b told = bool_same b (list_all (is_member into) (instances_of set)) (λ yes. within_list set into (told.0 yes)) (λ all. told.1 (list_within set into all))

pub some_common : (set into common : InstanceSet) → ((j : ℕ) → is_member common j ≡ (is_member set j && is_member into j)) → (b : Bool) → (IsTrue b ↔ ((j : ℕ) → is_member common j ≡ false))
    → not b ≡ list_any (is_member into) (instances_of set)
some_common set into common is b told = by b refl (list_any (is_member into) (instances_of set)) refl
  where
    by : (x : Bool) → b ≡ x → (y : Bool) → list_any (is_member into) (instances_of set) ≡ y → not x ≡ y
    by true none false some = refl
    by false none true some = refl
    by true none true some =
        let found = some_of_numbers (is_member into) (instances_of set) some in
        absurd (false≢true (sym (told.0 none found.0) ∙ is found.0 ∙ and_from (is_member set found.0) (is_member into found.0) (sym (has_instance set found.0) ∙ found.1) found.2))
    by false none false some =
        absurd (false≢true (sym none ∙ told.1 (λ j. false_from_ne_true (is_member common j) (λ there.
        let both = and_parts (is_member set j) (is_member into j) (sym (is j) ∙ there) in
        false≢true (sym some ∙ number_passes (is_member into) (instances_of set) j (has_instance set j ∙ both.0) both.1)))))

module _ (s : State) (i p : ℕ) (q : PortDomain) (at : port_at s i p ≡ Some (state_of_port q)) (into : InstanceSet) where
  pub only_stored : links_only s p i into ≡ (list_all (is_member into) (instances_of q.possible) && (q.fresh_high == 0))
  only_stored = ap (λ (x : PortState). list_all (is_member into) x.possible && (x.fresh_high == 0)) (port_is s i p q at)

  pub some_stored : links_some s p i into ≡ list_any (is_member into) (instances_of q.required)
  some_stored = ap (λ (x : PortState). list_any (is_member into) x.required) (port_is s i p q at)
