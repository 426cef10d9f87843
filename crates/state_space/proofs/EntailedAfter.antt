-- What a change leaves entails its literal.
use Rattle.std.proofs.Common.{◌≡◌, ◌≢◌, ℕ, ◌+◌, Bool, true, false, not, ◌&&◌, List, refl, ap, sym, ◌∙◌, subst, Some, ℤ, arith, leb-true, le-leb, le_refl}
use Rattle.std.specs.Prelude.{IsTrue, ◌==◌, slice_get, slice_set, nat_lt, nat_le, int_le, if◌then◌else◌}
use Rattle.std.specs.Option.{option_map_or, option_map, option_and_then}
use Rattle.std.specs.Ordering.{int_eq}
use Rattle.std.specs.List.{list_all, count_by}
use Rattle.std.proofs.lemmas.Bool.{and_parts, and_from, not-true, not_from_false, eqb-true, false≢true, false_from_ne_true}
use Rattle.std.proofs.lemmas.Bool.Decides.{nat_tests}
use Rattle.std.specs.Cmp.{signed_Decides}
use Rattle.prod_model.specs.declared.model.Model.{Model}
use Rattle.prod_model.specs.Forest.{is_a}
use Rattle.base_laws.specs.Places.{IsAt}
use Rattle.base_laws.proofs.Tests.{option_map_or_at, option_map_or_from}
use Rattle.config_value.proofs.Places.{is_between_from}
use Rattle.domain_store.specs.declared.change.Change.{Change}
use Rattle.domain_store.specs.declared.change.Change.TheVariants.{Empty}
use Rattle.config_value.specs.declared.literal.Literal.TheVariants as literal
use Rattle.state_space.specs.Made.{MadeInstance, domain_of, port_of_made}
use Rattle.state_space.specs.Values.{Values, has_value, least, greatest, are_values}
use Rattle.state_space.specs.Ports.{PortState, PortLinks, allows, is_port, is_closed}
use Rattle.state_space.specs.Sets.{has_number}
use Rattle.config_value.specs.Literals.{has_attribute, has_port}
use Rattle.state_space.specs.State.{State, IsState, number_made, kinds_at, with_made, changed_at}
use Rattle.state_space.specs.Entails.{entails, fits, at_made, all_kinds, has_domain_that, has_port_that, all_have_attribute, all_have_port}
use Rattle.state_space.specs.Changes.{NarrowsKinds, NarrowsDomain, NarrowsPort}
use Rattle.state_space.specs.Laws.{ChangeEntails}
use Rattle.state_space.proofs.Changed.{length-changed_at, slice_get-changed_at_same}
use Rattle.state_space.proofs.NarrowingLaws.{table_same}
use Rattle.state_space.proofs.ValuesLaws.{greatest-in, least-in}
use Rattle.state_space.proofs.PortLaws.{all_has, all_from_has, count_by-none}
use Rattle.state_space.proofs.EntailsLaws.{port_parts}
use Rattle.state_space.proofs.ChangeLaws.{made_instance}

-- a test of a changed instance is a test of what it is changed to
at_made_changed : (s : State) (i : ℕ) (f : MadeInstance → MadeInstance) (test : MadeInstance → Bool) (x : MadeInstance) → IsAt s.made i x
    → IsTrue (test (f x)) → IsTrue (at_made (with_made i f s) i test)
at_made_changed s i f test x at passes =
    option_map_or_from test (slice_get (changed_at i f s.made) i) (f x) (slice_get-changed_at_same i f s.made ∙ ap (option_map f) at) passes

module _ (m : Model) (old : State) (result : Change) (some : result ≢ Empty) (i : ℕ) where
  kinds_after : (test : ℕ → Bool) (new : State) → IsTrue (nat_lt i (number_made old)) → NarrowsKinds i test result old new → IsTrue (all_kinds new i test)
  kinds_after test new within narrows =
      let made = made_instance old i within in
      subst (λ s. IsTrue (all_kinds s i test)) (sym narrows.others)
      (at_made_changed old i (λ x. record x { kinds = kinds_at new i }) (λ x. list_all test x.kinds) made.0 made.1
      (all_from_has test (kinds_at new i) (λ t there. (and_parts _ _ (sym (narrows.narrowed.narrows.narrowed some t) ∙ there)).1)))

  domain_after : (a : ℕ) (test : ℤ → Bool) (want : Values → Bool) (new : State) → IsTrue (all_have_attribute m old i a) → (narrows : NarrowsDomain i a test result old new)
      → ((d : Values) → IsTrue (are_values d) → ((v : ℤ) → IsTrue (has_value d v) → IsTrue (test v)) → IsTrue (want d)) → IsTrue (has_domain_that m new i a want)
  domain_after a test want new all narrows says =
      let x = option_map_or_at (λ x. list_all (λ t. has_attribute m t a) x.kinds) (slice_get old.made i) all in
      let was : domain_of x.0 a ≡ Some narrows.before = sym (ap (option_and_then (λ x. domain_of x a)) x.1) ∙ narrows.was in
      let wanted : IsTrue (want narrows.after) = says narrows.after narrows.formed (λ v there. (and_parts _ _ (sym (narrows.narrowed.narrows.narrowed some v) ∙ there)).1) in
      subst (λ s. IsTrue (has_domain_that m s i a want)) (sym narrows.others)
      (at_made_changed old i (λ x. record x { domains = slice_set x.domains a (Some narrows.after) })
      (λ x. list_all (λ t. has_attribute m t a) x.kinds && option_map_or want (domain_of x a) false) x.0 x.1
      (and_from _ _ x.2 (option_map_or_from want (domain_of (record x.0 { domains = slice_set x.0.domains a (Some narrows.after) }) a) narrows.after
      (table_same x.0.domains a narrows.before narrows.after was) wanted)))

  port_after : (p : ℕ) (test : PortLinks → Bool) (want : PortState → Bool) (new : State) → IsTrue (all_have_port m old i p) → (narrows : NarrowsPort i p test result old new)
      → ((before q : PortState) → IsTrue (list_all (λ j. nat_lt j (number_made old)) before.possible) → IsTrue (is_port q)
      → ((l : PortLinks) → IsTrue (allows q l) → IsTrue (allows before l) × IsTrue (test l)) → IsTrue (want q))
      → IsState m old → IsTrue (has_port_that m new i p want)
  port_after p test want new all narrows says state =
      let x = option_map_or_at (λ x. list_all (λ t. has_port m t p) x.kinds) (slice_get old.made i) all in
      let was : port_of_made x.0 p ≡ Some narrows.before = sym (ap (option_and_then (λ x. port_of_made x p)) x.1) ∙ narrows.was in
      let wanted : IsTrue (want narrows.after) = says narrows.before narrows.after ((state.each i x.0 x.1).ports p narrows.before was).to_made narrows.formed
      (λ l there. and_parts _ _ (sym (narrows.narrowed.narrows.narrowed some l) ∙ there)) in
      subst (λ s. IsTrue (has_port_that m s i p want)) (sym narrows.others)
      (at_made_changed old i (λ x. record x { ports = slice_set x.ports p (Some narrows.after) })
      (λ x. list_all (λ t. has_port m t p) x.kinds && option_map_or want (port_of_made x p) false) x.0 x.1
      (and_from _ _ x.2 (option_map_or_from want (port_of_made (record x.0 { ports = slice_set x.0.ports p (Some narrows.after) }) p) narrows.after
      (table_same x.0.ports p narrows.before narrows.after was) wanted)))

-- ---- links that a port allows

-- as few as it can have, and as many
abbrev least_links : PortState → PortLinks
least_links q = record { to_made = q.required; later = q.fresh_low }

abbrev pub most_links : PortState → PortLinks
most_links q = record { to_made = q.possible; later = q.fresh_high }

allows_least : (q : PortState) → IsTrue (is_port q) → IsTrue (allows q (least_links q))
allows_least q h =
    let parts = port_parts q h in
    and_from _ _ (and_from _ _ (all_from_has (has_number q.required) q.required (λ k there. there)) parts.within)
    (is_between_from q.fresh_low q.fresh_high q.fresh_low (le_refl q.fresh_low, parts.bounds))

pub allows_most : (q : PortState) → IsTrue (is_port q) → IsTrue (allows q (most_links q))
allows_most q h =
    let parts = port_parts q h in
    and_from _ _ (and_from _ _ parts.within (all_from_has (has_number q.possible) q.possible (λ k there. there)))
    (is_between_from q.fresh_low q.fresh_high q.fresh_high (parts.bounds, le_refl q.fresh_high))

-- where another port allows the most links too, what is possible here is possible there
pub possible_before : (before q : PortState) → IsTrue (allows before (most_links q)) → (j : ℕ) → IsTrue (has_number q.possible j) → IsTrue (has_number before.possible j)
possible_before before q allowed j there =
    let both = and_parts (list_all (has_number q.possible) before.required && list_all (has_number before.possible) q.possible) _ allowed in
    let front = and_parts (list_all (has_number q.possible) before.required) (list_all (has_number before.possible) q.possible) both.0 in
    all_has (has_number before.possible) q.possible j front.1 there

-- numbers below another hold none from that one on
none_from : (made : ℕ) (xs : List ℕ) → ((j : ℕ) → IsTrue (has_number xs j) → IsTrue (nat_lt j made)) → count_by (nat_le made) xs ≡ 0
none_from made xs below = count_by-none (nat_le made) xs (λ j there. by j (below j there))
  where
    by : (j : ℕ) → IsTrue (nat_lt j made) → nat_le made j ≡ false
    by j h = grind (arith, nat_tests, h)

pub change_entails : ChangeEntails
unfolding entails fits
change_entails m (literal.Made i) result old new state fit narrowing changes some = absurd (false≢true narrowing)
change_entails m (literal.Kind i t) result old new state fit narrowing changes some = kinds_after m old result some i (λ u. is_a m u t) new fit changes
change_entails m (literal.NotKind i t) result old new state fit narrowing changes some = kinds_after m old result some i (λ u. not (is_a m u t)) new fit changes
change_entails m (literal.AtMost i a n) result old new state fit narrowing changes some =
    domain_after m old result some i a (λ v. int_le v n) (λ d. int_le (greatest d) n) new fit changes (λ d formed each. each (greatest d) (greatest-in d formed))
change_entails m (literal.AtLeast i a n) result old new state fit narrowing changes some =
    domain_after m old result some i a (λ v. int_le n v) (λ d. int_le n (least d)) new fit changes (λ d formed each. each (least d) (least-in d formed))
change_entails m (literal.ValueIsNot i a n) result old new state fit narrowing changes some =
    domain_after m old result some i a (λ v. not (int_eq v n)) (λ d. not (has_value d n)) new fit changes (λ d formed each.
    not_from_false _ (false_from_ne_true _ (λ there. false≢true (sym (not-true _ (each n there)) ∙ (signed_Decides n n).1 refl))))
change_entails m (literal.Linked i p j) result old new state fit narrowing changes some =
    let both = and_parts (all_have_port m old i p) (nat_lt j (number_made old)) fit in
    port_after m old result some i p (λ l. has_number l.to_made j) (λ q. has_number q.required j) new both.0 changes
    (λ before q below port each. (each (least_links q) (allows_least q port)).1) state
change_entails m (literal.NotLinked i p j) result old new state fit narrowing changes some =
    let both = and_parts (all_have_port m old i p) (nat_lt j (number_made old)) fit in
    let made : number_made new ≡ number_made old = ap number_made changes.others ∙ length-changed_at i (λ x. record x { ports = slice_set x.ports p (Some changes.after) }) old.made in
    port_after m old result some i p (λ l. not (has_number l.to_made j)) (λ q. if nat_lt j (number_made new) then not (has_number q.possible j) else is_closed q) new both.0 changes
    (λ before q below port each.
    let below_new : nat_lt j (number_made new) ≡ true = ap (λ n. nat_lt j n) made ∙ both.1 in
    ap (λ b. if b then not (has_number q.possible j) else is_closed q) below_new ∙ (each (most_links q) (allows_most q port)).1) state
change_entails m (literal.LinksAtMost i p n) result old new state fit narrowing changes some = absurd changes
change_entails m (literal.LinksAtLeast i p n) result old new state fit narrowing changes some = absurd changes
change_entails m (literal.FreshAtMost i p from n) result old new state fit narrowing changes some =
    let both = and_parts (all_have_port m old i p) (from == number_made old) fit in
    port_after m old result some i p (λ l. nat_le l.later n) (λ q. nat_le (count_by (nat_le from) q.possible + q.fresh_high) n) new both.0 changes
    (λ before q below port each.
    let most = each (most_links q) (allows_most q port) in
    let none = none_from (number_made old) q.possible (λ k there. all_has (λ j. nat_lt j (number_made old)) before.possible k below (possible_before before q most.0 k there)) in
    let same : count_by (nat_le from) q.possible ≡ count_by (nat_le (number_made old)) q.possible = ap (λ f. count_by (nat_le f) q.possible) (eqb-true from (number_made old) both.1) in
    le-leb (count_by (nat_le from) q.possible + q.fresh_high) n (omega (arith, same, none, leb-true q.fresh_high n most.1))) state
change_entails m (literal.FreshAtLeast i p from n) result old new state fit narrowing changes some =
    let both = and_parts (all_have_port m old i p) (from == number_made old) fit in
    let made : number_made new ≡ number_made old = ap number_made changes.others ∙ length-changed_at i (λ x. record x { ports = slice_set x.ports p (Some changes.after) }) old.made in
    port_after m old result some i p (λ l. nat_le n l.later) (λ q. nat_le n (count_by (nat_le from) q.required + (if nat_le from (number_made new) then q.fresh_low else 0))) new both.0 changes
    (λ before q below port each.
    let least = each (least_links q) (allows_least q port) in
    let early : nat_le from (number_made new) ≡ true = le-leb from (number_made new) (omega (arith, made, eqb-true from (number_made old) both.1)) in
    let counted : IsTrue (nat_le n (count_by (nat_le from) q.required + q.fresh_low)) = le-leb n (count_by (nat_le from) q.required + q.fresh_low) (omega (arith, leb-true n q.fresh_low least.1)) in
    ap (λ b. nat_le n (count_by (nat_le from) q.required + (if b then q.fresh_low else 0))) early ∙ counted) state
