-- An attribute that some but not all possible types of an instance have keeps its whole domain: in
-- the root, and after each change by a literal that fits.
use Rattle.std.proofs.Common.{◌≡◌, ◌<◌, ℕ, ℤ, zero, suc, ◌+◌, Bool, true, false, List, [], ◌∷◌, length, map, Option, Some, None, refl, ap, sym, ◌∙◌, subst, inl, inr, arith}
use Rattle.std.specs.Prelude.{IsTrue, ◌==◌, slice_get, slice_set, if◌then◌else◌}
use Rattle.std.specs.Option.{option_map_or, option_map}
use Rattle.std.specs.List.{list_all, list_any, range_with_len, enumerate_from}
use Rattle.std.proofs.Math.Nat.{zero-add}
use Rattle.std.proofs.lemmas.Bool.{and_parts, eqb-true, eq-eqb, false≢true, true≢false, false_from_ne_true}
use Rattle.std.proofs.lemmas.Bool.Decides.{eqb_tells}
use Rattle.std.proofs.lemmas.Option.{same_Some, none-some}
use Rattle.std.proofs.lemmas.List.{get_or-set_other}
use Rattle.base_laws.specs.Places.{IsAt}
use Rattle.base_laws.proofs.Places.{at_map}
use Rattle.base_laws.proofs.Ranges.{at_enumerate}
use Rattle.base_laws.proofs.Tests.{list_any_at, list_any_from}
use Rattle.prod_model.specs.declared.model.Model.{Model}
use Rattle.prod_model.specs.declared.model.AttrDecl.{AttrDecl}
use Rattle.prod_model.specs.Forest.{is_a}
use Rattle.config_value.specs.declared.literal.Literal.TheVariants as literal
use Rattle.config_value.specs.Literals.{has_attribute}
use Rattle.domain_store.specs.declared.change.Change.{Change}
use Rattle.domain_store.specs.declared.change.Change.TheVariants.{Same, Smaller, Empty}
use Rattle.state_space.specs.Sets.{has_number, Reduces}
use Rattle.state_space.specs.Values.{Values}
use Rattle.state_space.specs.Ports.{PortLinks}
use Rattle.state_space.specs.Made.{MadeInstance, domain_of}
use Rattle.state_space.specs.State.{State, number_made, kinds_at, with_made, changed_at, leaves_under, first_attributes, values_of, whole_domain}
use Rattle.state_space.specs.Root.{new_instance, root}
use Rattle.state_space.specs.Generation.{PortOf, first_open, ports_after, target_at, generated_for, generated}
use Rattle.state_space.specs.Entails.{fits, all_have_attribute}
use Rattle.state_space.specs.Changes.{NarrowsKinds, NarrowsDomain, NarrowsPort}
use Rattle.state_space.specs.Declared.{HasIds}
use Rattle.state_space.proofs.Changed.{slice_get-changed_at_same, slice_get-changed_at_other}
use Rattle.state_space.proofs.NarrowingLaws.{true_along}
use Rattle.state_space.proofs.PortLaws.{all_has, all_from_has}
use Rattle.state_space.proofs.WholeLaws.{map_read}
use Rattle.state_space.proofs.NewLaws.{entry_at}
use Rattle.state_space.proofs.GenerationKept.{enumerated_at, at_longer}
use Rattle.state_space.proofs.ValidLaws.{valid_has_ids}
use Rattle.state_values.specs.WholeDomains.{AreDomainsWhole, RootDomainsAreWhole, ChangeKeepsDomainsWhole}

-- one instance has such domains whole
abbrev IsWholeAt : Model → MadeInstance → Type 0
IsWholeAt m x =
    (a : ℕ) → list_any (λ t. has_attribute m t a) x.kinds ≡ true
    → list_all (λ t. has_attribute m t a) x.kinds ≡ false → domain_of x a ≡ whole_domain m a

-- a list has something at each place within it
none_within : {A : Type 0} (xs : List A) (k : ℕ) → k < length xs → slice_get xs k ≡ None → ⊥
none_within [] k within none = absurd (omega (arith, within))
none_within (x ∷ xs) zero within none = none-some x (sym none)
none_within (x ∷ xs) (suc k) within none = none_within xs k (omega (arith, within)) none

-- ---- a new instance

new_is_whole : (m : Model) → HasIds m → (kinds linkable : List ℕ) → IsWholeAt m (new_instance m kinds linkable)
new_is_whole m ids kinds linkable a any shared = by (slice_get (first_attributes m) a) refl
  where
    entry : ℕ × AttrDecl → Option Values
    entry e = if list_any (λ t. has_attribute m t e.0) kinds then Some (values_of e.1.domain) else None

    by : (o : Option AttrDecl) → slice_get (first_attributes m) a ≡ o → domain_of (new_instance m kinds linkable) a ≡ whole_domain m a
    by None none =
        let found = list_any_at (λ t. has_attribute m t a) kinds any in
        let within = ids.attributes_declared found.1 a found.3 in
        absurd (none_within (first_attributes m) a within none)
    by (Some d) at =
        let numbered = enumerate_from 0 (first_attributes m) in
        let here : IsAt numbered a (a, d) = at_enumerate 0 (first_attributes m) a d at ∙ ap (λ n. Some (n, d)) (zero-add a) in
        entry_at (map entry numbered) a (entry (a, d)) (at_map entry numbered a (a, d) here)
        ∙ ap (λ b. if b then Some (values_of d.domain) else None) any
        ∙ sym (ap (λ o. option_map_or (λ (d : AttrDecl). Some (values_of d.domain)) o None) at)

pub root_domains_are_whole : RootDomainsAreWhole
unfolding root
root_domains_are_whole m valid zero a x at any shared =
    subst (λ y. list_any (λ t. has_attribute m t a) y.kinds ≡ true → list_all (λ t. has_attribute m t a) y.kinds ≡ false → domain_of y a ≡ whole_domain m a)
    (same_Some (new_instance m (leaves_under m m.root) (0 ∷ [])) x at)
    (new_is_whole m (valid_has_ids m valid) (leaves_under m m.root) (0 ∷ []) a) any shared
root_domains_are_whole m valid (suc i) a x at any shared = absurd (none-some x at)

-- ---- narrowings

abbrev is_smaller : Change → Bool
is_smaller Smaller = true
is_smaller other = false

-- types that are left were there
left_before : (test : ℕ → Bool) (result : Change) (old new : List ℕ) → Reduces has_number length test result old new → (t : ℕ) → IsTrue (has_number new t) → IsTrue (has_number old t)
left_before test Smaller old new narrows t there = (and_parts _ _ (sym (narrows.narrows.narrowed (λ is. true≢false (ap is_smaller is)) t) ∙ there)).0
left_before test Same old new narrows t there = subst (λ ks. IsTrue (has_number ks t)) (narrows.narrows.unchanged (λ is. false≢true (ap is_smaller is))) there
left_before test Empty old new narrows t there = subst (λ ks. IsTrue (has_number ks t)) (narrows.narrows.unchanged (λ is. false≢true (ap is_smaller is))) there

-- what not all of some pass not all of more pass
not_all_of_more : (test : ℕ → Bool) (few more : List ℕ) → ((k : ℕ) → IsTrue (has_number few k) → IsTrue (has_number more k)) → list_all test few ≡ false → list_all test more ≡ false
not_all_of_more test few more within fails = false_from_ne_true _ (λ all. false≢true (sym fails ∙ all_from_has test few (λ k there. all_has test more k all (within k there))))

-- what stands in a list is one of it
among : (xs : List ℕ) (k x : ℕ) → IsAt xs k x → IsTrue (has_number xs x)
among xs k x at = list_any_from (λ j. j == x) xs k x at (eq-eqb x x refl)

-- what stands is at a place
placed : (xs : List ℕ) (x : ℕ) → IsTrue (has_number xs x) → (k : ℕ) × IsAt xs k x
placed xs x there =
    let found = list_any_at (λ j. j == x) xs there in
    (found.0, subst (λ y. IsAt xs found.0 y) (eqb-true found.1 x found.3) found.2)

-- what one of some passes one of more passes
any_of_more : (test : ℕ → Bool) (few more : List ℕ) → ((k : ℕ) → IsTrue (has_number few k) → IsTrue (has_number more k)) → list_any test few ≡ true → list_any test more ≡ true
any_of_more test few more within passes =
    let found = list_any_at test few passes in
    let there = placed more found.1 (within found.1 (among few found.0 found.1 found.2)) in
    list_any_from test more there.0 found.1 there.1 found.3

fewer_kinds : (m : Model) (x : MadeInstance) → IsWholeAt m x → (kinds : List ℕ) → ((t : ℕ) → IsTrue (has_number kinds t) → IsTrue (has_number x.kinds t))
    → IsWholeAt m (record x { kinds = kinds })
fewer_kinds m x whole kinds within a any shared =
    whole a (any_of_more (λ t. has_attribute m t a) kinds x.kinds within any) (not_all_of_more (λ t. has_attribute m t a) kinds x.kinds within shared)

other_domain : (m : Model) (x : MadeInstance) → IsWholeAt m x → (a : ℕ) (after : Values) → IsTrue (list_all (λ u. has_attribute m u a) x.kinds)
    → IsWholeAt m (record x { domains = slice_set x.domains a (Some after) })
other_domain m x whole a after all b any shared = elim (eqb_tells b a) [
  | inl same ↦ absurd (false≢true (sym shared ∙ subst (λ j. IsTrue (list_all (λ u. has_attribute m u j) x.kinds)) (sym same.1) all))
  | inr other ↦ get_or-set_other x.domains a b (Some after) None other.1 ∙ whole b any shared
]

-- a state has whole domains after a change of one instance that keeps them
one_kept : (m : Model) (s : State) (i : ℕ) (f : MadeInstance → MadeInstance) → AreDomainsWhole m s
    → ((x : MadeInstance) → IsAt s.made i x → IsWholeAt m x → IsWholeAt m (f x)) → AreDomainsWhole m (with_made i f s)
one_kept m s i f whole one j a x at any shared = elim (eqb_tells j i) [
  | inl same ↦ changed (subst (λ k. IsAt (changed_at i f s.made) k x) same.1 at) (slice_get s.made i) refl
  | inr other ↦ whole j a x (sym (slice_get-changed_at_other i j f s.made other.1) ∙ at) any shared
]
  where
    changed : IsAt (changed_at i f s.made) i x → (o : Option MadeInstance) → slice_get s.made i ≡ o → domain_of x a ≡ whole_domain m a
    changed at None none = absurd (none-some x (sym (slice_get-changed_at_same i f s.made ∙ ap (option_map f) none) ∙ at))
    changed at (Some w) there =
        let is : f w ≡ x = same_Some (f w) x (sym (slice_get-changed_at_same i f s.made ∙ ap (option_map f) there) ∙ at) in
        subst (IsWholeAt m) is (one w there (λ b any shared. whole i b w there any shared)) a any shared

module _ (m : Model) (i : ℕ) (result : Change) (old new : State) (whole : AreDomainsWhole m old) where
  kinds_whole : (test : ℕ → Bool) → NarrowsKinds i test result old new → AreDomainsWhole m new
  kinds_whole test narrows = subst (AreDomainsWhole m) (sym narrows.others)
      (one_kept m old i (λ x. record x { kinds = kinds_at new i }) whole (λ x at is.
      fewer_kinds m x is (kinds_at new i) (λ t there.
      true_along _ _ (ap (λ o. has_number (option_map_or (λ (x : MadeInstance). x.kinds) o []) t) at)
      (left_before test result (kinds_at old i) (kinds_at new i) narrows.narrowed t there))))

  domain_whole : (a : ℕ) (test : ℤ → Bool) → IsTrue (all_have_attribute m old i a) → NarrowsDomain i a test result old new → AreDomainsWhole m new
  domain_whole a test fit narrows = subst (AreDomainsWhole m) (sym narrows.others)
      (one_kept m old i (λ x. record x { domains = slice_set x.domains a (Some narrows.after) }) whole (λ x at is.
      other_domain m x is a narrows.after
      (true_along _ _ (ap (λ o. option_map_or (λ (x : MadeInstance). list_all (λ t. has_attribute m t a) x.kinds) o false) at) fit)))

  port_whole : (p : ℕ) (test : PortLinks → Bool) → NarrowsPort i p test result old new → AreDomainsWhole m new
  port_whole p test narrows = subst (AreDomainsWhole m) (sym narrows.others)
      (one_kept m old i (λ x. record x { ports = slice_set x.ports p (Some narrows.after) }) whole (λ x at is. is))

-- ---- generations

generation_keeps_whole : (m : Model) (s : State) → HasIds m → AreDomainsWhole m s → AreDomainsWhole m (generated m s)
unfolding generated
generation_keeps_whole m s ids whole = by (first_open m s)
  where
    n : ℕ
    n = number_made s

    of_port : (at : PortOf) → AreDomainsWhole m (generated_for m s at)
    of_port at k a x at_x any shared = elim (at_longer earlier one_more k x at_x) [
      | inl there ↦ before there
      | inr last ↦ subst (IsWholeAt m) last.1 (new_is_whole m ids (leaves_under m (target_at m s at)) (range_with_len 0 (n + 1))) a any shared
    ]
      where
        after : ℕ × MadeInstance → MadeInstance
        after e = record e.1 { ports = ports_after n at e.0 e.1.ports }

        earlier : List MadeInstance
        earlier = map after (enumerate_from 0 s.made)

        one_more : MadeInstance
        one_more = new_instance m (leaves_under m (target_at m s at)) (range_with_len 0 (n + 1))

        before : IsAt earlier k x → domain_of x a ≡ whole_domain m a
        before there =
            let e = map_read after (enumerate_from 0 s.made) k x there in
            let stands = enumerated_at 0 s.made k e.0 e.1 in
            subst (IsWholeAt m) (sym e.2) (λ b some not_all. whole k b e.0.1 stands.1 some not_all) a any shared

    by : (o : Option PortOf) → AreDomainsWhole m (option_map_or (generated_for m s) o s)
    by None = whole
    by (Some at) = of_port at

-- ---- the law

pub change_keeps_domains_whole : ChangeKeepsDomainsWhole
unfolding fits
change_keeps_domains_whole m (literal.Made i) result old new valid fit changes whole =
    subst (AreDomainsWhole m) (sym changes.1) (generation_keeps_whole m old (valid_has_ids m valid) whole)
change_keeps_domains_whole m (literal.Kind i t) result old new valid fit changes whole = kinds_whole m i result old new whole (λ u. is_a m u t) changes
change_keeps_domains_whole m (literal.NotKind i t) result old new valid fit changes whole = kinds_whole m i result old new whole _ changes
change_keeps_domains_whole m (literal.AtMost i a n) result old new valid fit changes whole = domain_whole m i result old new whole a _ fit changes
change_keeps_domains_whole m (literal.AtLeast i a n) result old new valid fit changes whole = domain_whole m i result old new whole a _ fit changes
change_keeps_domains_whole m (literal.ValueIsNot i a n) result old new valid fit changes whole = domain_whole m i result old new whole a _ fit changes
change_keeps_domains_whole m (literal.Linked i p j) result old new valid fit changes whole = port_whole m i result old new whole p _ changes
change_keeps_domains_whole m (literal.NotLinked i p j) result old new valid fit changes whole = port_whole m i result old new whole p _ changes
change_keeps_domains_whole m (literal.LinksAtMost i p n) result old new valid fit changes whole = absurd changes
change_keeps_domains_whole m (literal.LinksAtLeast i p n) result old new valid fit changes whole = absurd changes
change_keeps_domains_whole m (literal.FreshAtMost i p from n) result old new valid fit changes whole = port_whole m i result old new whole p _ changes
change_keeps_domains_whole m (literal.FreshAtLeast i p from n) result old new valid fit changes whole = port_whole m i result old new whole p _ changes
