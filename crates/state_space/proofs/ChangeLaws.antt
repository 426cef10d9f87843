-- Opposite literals, and what a change by a literal leaves of the covered configurations.
use Rattle.std.proofs.Common.{◌≡◌, ◌≢◌, ◌↔◌, ℕ, zero, suc, ◌+◌, Bool, true, false, not, ◌&&◌, ◌||◌, List, [], refl, ap, sym, ◌∙◌, subst, Some, ℤ, pos, arith, ltb-true, get_or, true≢false}
use Rattle.std.specs.Prelude.{IsTrue, ◌==◌, nat_lt, nat_le, int_le, ◌+ℤ◌, ◌-ℤ◌}
use Rattle.std.specs.Option.{option_map_or, option_and_then}
use Rattle.std.specs.Ordering.{int_eq}
use Rattle.std.specs.List.{list_all, count_by}
use Rattle.std.proofs.lemmas.Int.{ints}
use Rattle.std.proofs.lemmas.Bool.{and_parts, eqb-true, false≢true, false_from_ne_true}
use Rattle.std.proofs.lemmas.Bool.Decides.{nat_tests}
use Rattle.std.proofs.lemmas.Option.{same_Some, none-some, slice_get-get_or}
use Rattle.prod_model.specs.declared.model.Model.{Model}
use Rattle.prod_model.specs.Forest.{is_a}
use Rattle.config_value.specs.declared.configuration.Instance.{Instance}
use Rattle.config_value.specs.Value.{value_of, links_of, at_instance, under}
use Rattle.base_laws.specs.Places.{IsAt}
use Rattle.domain_store.specs.declared.change.Change.{Change}
use Rattle.domain_store.specs.declared.change.Change.TheVariants.{Smaller, Empty}
use Rattle.config_value.specs.declared.literal.Literal.{Literal}
use Rattle.config_value.specs.declared.literal.Literal.TheVariants as literal
use Rattle.state_space.specs.Made.{MadeInstance, domain_of, port_of_made}
use Rattle.state_space.specs.Sets.{has_number}
use Rattle.state_space.specs.Values.{has_value}
use Rattle.state_space.specs.Ports.{PortLinks, parted, allows}
use Rattle.config_value.specs.Literals.{has_literal, has_attribute, has_port, has_value_that, has_links_that}
use Rattle.state_space.specs.State.{State, IsState, number_made, kinds_at}
use Rattle.state_space.specs.Covers.{Covers}
use Rattle.state_space.specs.Entails.{fits, all_have_attribute, all_have_port}
use Rattle.state_space.specs.Changes.{NarrowsKinds, NarrowsDomain, NarrowsPort}
use Rattle.state_space.specs.Laws.{OppositeHolds, ChangeIsExact, EmptyCoversNone}
use Rattle.state_space.proofs.NarrowingLaws.{true_along, kinds_narrowed, domain_narrowed, port_narrowed}
use Rattle.state_space.proofs.PortLaws.{all_has, has_number-filter}
use Rattle.state_space.proofs.EntailsLaws.{covered_at, made_passes, at_instance_same, value_opposite, links_opposite}

-- ---- opposites

not-not : (b : Bool) → b ≡ not (not b)
not-not true = refl
not-not false = refl

above : (n v : ℤ) → int_le (n +ℤ pos 1) v ≡ not (int_le v n)
above n v = grind (arith, ints)

below : (n v : ℤ) → int_le v (n -ℤ pos 1) ≡ not (int_le n v)
below n v = grind (arith, ints)

more : (n k : ℕ) → nat_le (n + 1) k ≡ not (nat_le k n)
more n k = grind (arith, nat_tests)

fewer : (n k : ℕ) → nat_le k n ≡ not (nat_le (suc n) k)
fewer n k = grind (arith, nat_tests)

-- what is known of an instance of that number
pub made_instance : (s : State) (i : ℕ) → IsTrue (nat_lt i (number_made s)) → (x : MadeInstance) × IsAt s.made i x
made_instance s i within =
    let nothing : MadeInstance = record { kinds = []; domains = []; ports = [] } in
    (get_or s.made i nothing, slice_get-get_or s.made i nothing (ltb-true i (number_made s) within))

kind_opposite : (m : Model) (s : State) (c : List Instance) → IsState m s → Covers m s c → (i : ℕ) (test other : Instance → Bool) → ((y : Instance) → other y ≡ not (test y))
    → IsTrue (nat_lt i (number_made s)) → at_instance c other false i ≡ not (at_instance c test false i)
kind_opposite m s c state h i test other opposed within =
    let made = made_instance s i within in
    let y = covered_at m s c state h i made.0 made.1 in
    at_instance_same c i y.0 other y.1.there ∙ (opposed y.0 ∙ sym (ap not (at_instance_same c i y.0 test y.1.there)))

-- the same of the literal that an equation names
along : (m : Model) (c : List Instance) (l o k : Literal) → Some o ≡ Some k → has_literal m c o ≡ not (has_literal m c l) → has_literal m c k ≡ not (has_literal m c l)
along m c l o k is holds = subst (λ j. has_literal m c j ≡ not (has_literal m c l)) (same_Some o k is) holds

pub opposite_holds : OppositeHolds
unfolding has_literal fits
opposite_holds m s (literal.Made i) k c state fit is h = absurd (none-some k is)
opposite_holds m s (literal.Kind i t) k c state fit is h = along m c (literal.Kind i t) (literal.NotKind i t) k is
    (kind_opposite m s c state h i (under m t) (λ y. not (under m t y)) (λ y. refl) fit)
opposite_holds m s (literal.NotKind i t) k c state fit is h = along m c (literal.NotKind i t) (literal.Kind i t) k is
    (kind_opposite m s c state h i (λ y. not (under m t y)) (under m t) (λ y. not-not (under m t y)) fit)
opposite_holds m s (literal.AtMost i a n) k c state fit is h = along m c (literal.AtMost i a n) (literal.AtLeast i a (n +ℤ pos 1)) k is
    (value_opposite m s c state h i a (λ v. int_le v n) (λ v. int_le (n +ℤ pos 1) v) (above n) fit)
opposite_holds m s (literal.AtLeast i a n) k c state fit is h = along m c (literal.AtLeast i a n) (literal.AtMost i a (n -ℤ pos 1)) k is
    (value_opposite m s c state h i a (λ v. int_le n v) (λ v. int_le v (n -ℤ pos 1)) (below n) fit)
opposite_holds m s (literal.ValueIsNot i a n) k c state fit is h = absurd (none-some k is)
opposite_holds m s (literal.Linked i p j) k c state fit is h = along m c (literal.Linked i p j) (literal.NotLinked i p j) k is
    (links_opposite m s c state h i p (λ links. has_number links j) (λ links. not (has_number links j)) (λ links. refl) (and_parts _ _ fit).0)
opposite_holds m s (literal.NotLinked i p j) k c state fit is h = along m c (literal.NotLinked i p j) (literal.Linked i p j) k is
    (links_opposite m s c state h i p (λ links. not (has_number links j)) (λ links. has_number links j) (λ links. not-not (has_number links j)) (and_parts _ _ fit).0)
opposite_holds m s (literal.LinksAtMost i p n) k c state fit is h = absurd (false≢true fit)
opposite_holds m s (literal.LinksAtLeast i p n) k c state fit is h = absurd (false≢true fit)
opposite_holds m s (literal.FreshAtMost i p from n) k c state fit is h = along m c (literal.FreshAtMost i p from n) (literal.FreshAtLeast i p from (n + 1)) k is
    (links_opposite m s c state h i p (λ links. nat_le (count_by (nat_le from) links) n) (λ links. nat_le (n + 1) (count_by (nat_le from) links))
    (λ links. more n (count_by (nat_le from) links)) (and_parts _ _ fit).0)
opposite_holds m s (literal.FreshAtLeast i p from zero) k c state fit is h = absurd (none-some k is)
opposite_holds m s (literal.FreshAtLeast i p from (suc n)) k c state fit is h = along m c (literal.FreshAtLeast i p from (suc n)) (literal.FreshAtMost i p from n) k is
    (links_opposite m s c state h i p (λ links. nat_le (suc n) (count_by (nat_le from) links)) (λ links. nat_le (count_by (nat_le from) links) n)
    (λ links. fewer n (count_by (nat_le from) links)) (and_parts _ _ fit).0)

-- ---- changes

-- a narrowing leaves what it says, where that is what the literal says of covered configurations
exactly : (P Q : Type 0) (r l : Bool) → (Q → r ≡ l) → P ↔ (Q × IsTrue r) → P ↔ (Q × IsTrue l)
exactly P Q r l same left = (
  λ p. let both = left.0 p in (both.0, true_along r l (same both.0) both.1),
  λ b. left.1 (b.0, true_along l r (sym (same b.0)) b.1),
)

-- a test of an instance that is there is answered alike where it would hold of none and where it would not
at_instance_either : (c : List Instance) (i : ℕ) (y : Instance) (test other : Instance → Bool) → IsAt c i y → test y ≡ other y → at_instance c test true i ≡ at_instance c other false i
at_instance_either c i y test other at same = ap (λ o. option_map_or test o true) at ∙ (same ∙ sym (ap (λ o. option_map_or other o false) at))

module _ (m : Model) (s : State) (c : List Instance) (state : IsState m s) where
  kinds_exact : (i : ℕ) (test : ℕ → Bool) (result : Change) (new : State) → IsTrue (nat_lt i (number_made s)) → NarrowsKinds i test result s new → result ≢ Empty
      → Covers m new c ↔ (Covers m s c × IsTrue (at_instance c (λ y. test y.kind) false i))
  kinds_exact i test result new within narrows some =
      exactly (Covers m new c) (Covers m s c) (at_instance c (λ y. test y.kind) true i) (at_instance c (λ y. test y.kind) false i) (λ h.
      let made = made_instance s i within in let y = covered_at m s c state h i made.0 made.1 in
      at_instance_either c i y.0 (λ y. test y.kind) (λ y. test y.kind) y.1.there refl)
      (kinds_narrowed m i test result s new c narrows some)

  domain_exact : (i a : ℕ) (test : ℤ → Bool) (result : Change) (new : State) → IsTrue (all_have_attribute m s i a) → NarrowsDomain i a test result s new → result ≢ Empty
      → Covers m new c ↔ (Covers m s c × IsTrue (has_value_that m c i a test))
  domain_exact i a test result new all narrows some =
      exactly (Covers m new c) (Covers m s c) (at_instance c (λ y. not (has_attribute m y.kind a) || test (value_of m y a)) true i) (has_value_that m c i a test) (λ h.
      let found = made_passes m s c i (λ x. list_all (λ t. has_attribute m t a) x.kinds) state h all in
      let y = found.1 in
      let has : has_attribute m y.kind a ≡ true = all_has (λ t. has_attribute m t a) found.0.kinds y.kind found.3 found.2.covered.kind in
      at_instance_either c i y (λ y. not (has_attribute m y.kind a) || test (value_of m y a)) (λ y. has_attribute m y.kind a && test (value_of m y a)) found.2.there
      (ap (λ b. not b || test (value_of m y a)) has ∙ sym (ap (λ b. b && test (value_of m y a)) has)))
      (domain_narrowed m i a test result s new c narrows some)

  port_exact : (i p : ℕ) (test : PortLinks → Bool) (want : List ℕ → Bool) (result : Change) (new : State) → ((links : List ℕ) → test (parted (number_made s) links) ≡ want links)
      → IsTrue (all_have_port m s i p) → NarrowsPort i p test result s new → result ≢ Empty
      → Covers m new c ↔ (Covers m s c × IsTrue (has_links_that m c i p want))
  port_exact i p test want result new same all narrows some =
      exactly (Covers m new c) (Covers m s c) (at_instance c (λ y. not (has_port m y.kind p) || test (parted (number_made s) (links_of m y p))) true i) (has_links_that m c i p want) (λ h.
      let found = made_passes m s c i (λ x. list_all (λ t. has_port m t p) x.kinds) state h all in
      let y = found.1 in
      let has : has_port m y.kind p ≡ true = all_has (λ t. has_port m t p) found.0.kinds y.kind found.3 found.2.covered.kind in
      at_instance_either c i y (λ y. not (has_port m y.kind p) || test (parted (number_made s) (links_of m y p))) (λ y. has_port m y.kind p && want (links_of m y p)) found.2.there
      (ap (λ b. not b || test (parted (number_made s) (links_of m y p))) has ∙ (same (links_of m y p) ∙ sym (ap (λ b. b && want (links_of m y p)) has))))
      (port_narrowed m i p test result s new c narrows some)

  -- a made instance is linked where it is among the links to made ones
  linked_parted : (j : ℕ) → IsTrue (nat_lt j (number_made s)) → (links : List ℕ) → has_number (parted (number_made s) links).to_made j ≡ has_number links j
  linked_parted j within links = has_number-filter (λ k. nat_lt k (number_made s)) links j ∙ (ap (λ b. has_number links j && b) within ∙ and-true (has_number links j))
    where
      and-true : (b : Bool) → (b && true) ≡ b
      and-true true = refl
      and-true false = refl

  -- what is later is what is numbered from the number made
  later_parted : (from : ℕ) → IsTrue (from == number_made s) → (links : List ℕ) → (parted (number_made s) links).later ≡ count_by (nat_le from) links
  later_parted from same links = ap (λ n. count_by (nat_le n) links) (sym (eqb-true from (number_made s) same))

pub change_is_exact : ChangeIsExact
unfolding has_literal fits
change_is_exact m (literal.Made i) result old new c state fit narrowing changes some = absurd (false≢true narrowing)
change_is_exact m (literal.Kind i t) result old new c state fit narrowing changes some = kinds_exact m old c state i (λ u. is_a m u t) result new fit changes some
change_is_exact m (literal.NotKind i t) result old new c state fit narrowing changes some = kinds_exact m old c state i (λ u. not (is_a m u t)) result new fit changes some
change_is_exact m (literal.AtMost i a n) result old new c state fit narrowing changes some = domain_exact m old c state i a (λ v. int_le v n) result new fit changes some
change_is_exact m (literal.AtLeast i a n) result old new c state fit narrowing changes some = domain_exact m old c state i a (λ v. int_le n v) result new fit changes some
change_is_exact m (literal.ValueIsNot i a n) result old new c state fit narrowing changes some = domain_exact m old c state i a (λ v. not (int_eq v n)) result new fit changes some
change_is_exact m (literal.Linked i p j) result old new c state fit narrowing changes some =
    let both = and_parts (all_have_port m old i p) (nat_lt j (number_made old)) fit in
    port_exact m old c state i p (λ l. has_number l.to_made j) (λ links. has_number links j) result new (linked_parted m old c state j both.1) both.0 changes some
change_is_exact m (literal.NotLinked i p j) result old new c state fit narrowing changes some =
    let both = and_parts (all_have_port m old i p) (nat_lt j (number_made old)) fit in
    port_exact m old c state i p (λ l. not (has_number l.to_made j)) (λ links. not (has_number links j)) result new
    (λ links. ap not (linked_parted m old c state j both.1 links)) both.0 changes some
change_is_exact m (literal.LinksAtMost i p n) result old new c state fit narrowing changes some = absurd changes
change_is_exact m (literal.LinksAtLeast i p n) result old new c state fit narrowing changes some = absurd changes
change_is_exact m (literal.FreshAtMost i p from n) result old new c state fit narrowing changes some =
    let both = and_parts (all_have_port m old i p) (from == number_made old) fit in
    port_exact m old c state i p (λ l. nat_le l.later n) (λ links. nat_le (count_by (nat_le from) links) n) result new
    (λ links. ap (λ k. nat_le k n) (later_parted m old c state from both.1 links)) both.0 changes some
change_is_exact m (literal.FreshAtLeast i p from n) result old new c state fit narrowing changes some =
    let both = and_parts (all_have_port m old i p) (from == number_made old) fit in
    port_exact m old c state i p (λ l. nat_le n l.later) (λ links. nat_le n (count_by (nat_le from) links)) result new
    (λ links. ap (λ k. nat_le n k) (later_parted m old c state from both.1 links)) both.0 changes some

-- ---- changes that would leave nothing

module _ (m : Model) (s : State) (c : List Instance) (state : IsState m s) (h : Covers m s c) where
  kinds_none : (i : ℕ) (test : ℕ → Bool) (new : State) → IsTrue (nat_lt i (number_made s)) → NarrowsKinds i test Empty s new → at_instance c (λ y. test y.kind) false i ≡ false
  kinds_none i test new within narrows =
      let made = made_instance s i within in
      let y = covered_at m s c state h i made.0 made.1 in
      let possible : IsTrue (has_number (kinds_at s i) y.0.kind) = true_along _ _ (sym (ap (λ o. has_number (option_map_or (λ x. x.kinds) o []) y.0.kind) made.1)) y.1.covered.kind in
      at_instance_same c i y.0 (λ y. test y.kind) y.1.there ∙ false_from_ne_true (test y.0.kind) (narrows.narrowed.narrows.empty.0 refl y.0.kind possible)

  domain_none : (i a : ℕ) (test : ℤ → Bool) (new : State) → IsTrue (all_have_attribute m s i a) → NarrowsDomain i a test Empty s new → has_value_that m c i a test ≡ false
  domain_none i a test new all narrows =
      let found = made_passes m s c i (λ x. list_all (λ t. has_attribute m t a) x.kinds) state h all in
      let x = found.0 in let y = found.1 in
      let has : IsTrue (has_attribute m y.kind a) = all_has (λ t. has_attribute m t a) x.kinds y.kind found.3 found.2.covered.kind in
      let was : domain_of x a ≡ Some narrows.before = sym (ap (option_and_then (λ x. domain_of x a)) found.2.made) ∙ narrows.was in
      let it : IsTrue (has_value narrows.before (value_of m y a)) = true_along _ _ (ap (λ o. option_map_or (λ d. has_value d (value_of m y a)) o false) was) (found.2.covered.values a has) in
      at_instance_same c i y (λ y. has_attribute m y.kind a && test (value_of m y a)) found.2.there
      ∙ false_from_ne_true _ (λ passes. narrows.narrowed.narrows.empty.0 refl (value_of m y a) it (and_parts (has_attribute m y.kind a) (test (value_of m y a)) passes).1)

  port_none : (i p : ℕ) (test : PortLinks → Bool) (want : List ℕ → Bool) (new : State) → ((links : List ℕ) → test (parted (number_made s) links) ≡ want links)
      → IsTrue (all_have_port m s i p) → NarrowsPort i p test Empty s new → has_links_that m c i p want ≡ false
  port_none i p test want new same all narrows =
      let found = made_passes m s c i (λ x. list_all (λ t. has_port m t p) x.kinds) state h all in
      let x = found.0 in let y = found.1 in
      let links = parted (number_made s) (links_of m y p) in
      let has : IsTrue (has_port m y.kind p) = all_has (λ t. has_port m t p) x.kinds y.kind found.3 found.2.covered.kind in
      let was : port_of_made x p ≡ Some narrows.before = sym (ap (option_and_then (λ x. port_of_made x p)) found.2.made) ∙ narrows.was in
      let it : IsTrue (allows narrows.before links) = true_along _ _ (ap (λ o. option_map_or (λ q. allows q links) o false) was) (found.2.covered.links p has) in
      at_instance_same c i y (λ y. has_port m y.kind p && want (links_of m y p)) found.2.there
      ∙ false_from_ne_true _ (λ passes. narrows.narrowed.narrows.empty.0 refl links it (same (links_of m y p) ∙ (and_parts (has_port m y.kind p) (want (links_of m y p)) passes).1))

pub empty_covers_none : EmptyCoversNone
unfolding has_literal fits
empty_covers_none m (literal.Made i) old new c state fit changes h = absurd (different (changes.0))
  where
    different : Empty ≡ Smaller → ⊥
    different is = true≢false (ap is_empty is)
      where
        is_empty : Change → Bool
        is_empty Empty = true
        is_empty other = false
empty_covers_none m (literal.Kind i t) old new c state fit changes h = kinds_none m old c state h i (λ u. is_a m u t) new fit changes
empty_covers_none m (literal.NotKind i t) old new c state fit changes h = kinds_none m old c state h i (λ u. not (is_a m u t)) new fit changes
empty_covers_none m (literal.AtMost i a n) old new c state fit changes h = domain_none m old c state h i a (λ v. int_le v n) new fit changes
empty_covers_none m (literal.AtLeast i a n) old new c state fit changes h = domain_none m old c state h i a (λ v. int_le n v) new fit changes
empty_covers_none m (literal.ValueIsNot i a n) old new c state fit changes h = domain_none m old c state h i a (λ v. not (int_eq v n)) new fit changes
empty_covers_none m (literal.Linked i p j) old new c state fit changes h =
    let both = and_parts (all_have_port m old i p) (nat_lt j (number_made old)) fit in
    port_none m old c state h i p (λ l. has_number l.to_made j) (λ links. has_number links j) new (linked_parted m old c state j both.1) both.0 changes
empty_covers_none m (literal.NotLinked i p j) old new c state fit changes h =
    let both = and_parts (all_have_port m old i p) (nat_lt j (number_made old)) fit in
    port_none m old c state h i p (λ l. not (has_number l.to_made j)) (λ links. not (has_number links j)) new
    (λ links. ap not (linked_parted m old c state j both.1 links)) both.0 changes
empty_covers_none m (literal.LinksAtMost i p n) old new c state fit changes h = absurd changes
empty_covers_none m (literal.LinksAtLeast i p n) old new c state fit changes h = absurd changes
empty_covers_none m (literal.FreshAtMost i p from n) old new c state fit changes h =
    let both = and_parts (all_have_port m old i p) (from == number_made old) fit in
    port_none m old c state h i p (λ l. nat_le l.later n) (λ links. nat_le (count_by (nat_le from) links) n) new
    (λ links. ap (λ k. nat_le k n) (later_parted m old c state from both.1 links)) both.0 changes
empty_covers_none m (literal.FreshAtLeast i p from n) old new c state fit changes h =
    let both = and_parts (all_have_port m old i p) (from == number_made old) fit in
    port_none m old c state h i p (λ l. nat_le n l.later) (λ links. nat_le n (count_by (nat_le from) links)) new
    (λ links. ap (λ k. nat_le n k) (later_parted m old c state from both.1 links)) both.0 changes
