-- What the search needs of whole states, of instances that have to be made, and of any change by a literal that fits.
use Rattle.std.proofs.Common.{◌≡◌, ◌⊎◌, ℕ, zero, suc, ◌+◌, ◌-◌, ◌≤◌, ◌<◌, Bool, true, false, ◌&&◌, ◌||◌, List, [], ◌∷◌, ◌++◌, length, map, refl, ap, sym, ◌∙◌, subst, inl, inr, Some, None, Option, arith, get_or, ltb-true, lt-ltb, leb-true}
use Rattle.std.specs.Prelude.{IsTrue, ◌==◌, nat_lt, nat_le}
use Rattle.std.specs.Option.{option_map_or, option_map, option_and_then}
use Rattle.std.specs.List.{list_any, count_by, flat_map, find, enumerate_from, range_with_len}
use Rattle.std.proofs.lemmas.Bool.{and_parts, or_cases, eqb-true, eq-eqb, false≢true}
use Rattle.std.proofs.lemmas.Bool.Decides.{nat_tests}
use Rattle.std.proofs.lemmas.List.{length-map, length-append}
use Rattle.std.proofs.lemmas.Option.{none-some, slice_get-get_or}
use Rattle.prod_model.specs.declared.model.Model.{Model}
use Rattle.prod_model.specs.Taxonomy.{ports_at}
use Rattle.base_laws.proofs.Ranges.{list_all_below}
use Rattle.config_value.specs.declared.configuration.Instance.{Instance}
use Rattle.config_value.specs.Value.{links_of, links_at_instance}
use Rattle.config_value.specs.Numbered.{Link, all_links, is_mentioned_lower, is_mentioned_before, is_in_turn, is_numbered}
use Rattle.base_laws.specs.Places.{IsAt}
use Rattle.base_laws.proofs.Tests.{list_any_from, list_all_at, option_map_or_at}
use Rattle.config_value.proofs.Places.{is_between_at}
use Rattle.config_value.specs.declared.literal.Literal.{Literal}
use Rattle.config_value.specs.declared.literal.Literal.TheVariants as literal
use Rattle.state_space.specs.Made.{MadeInstance, port_of_made}
use Rattle.state_space.specs.Ports.{PortState, parted, allows}
use Rattle.state_space.specs.Sets.{has_number}
use Rattle.config_value.specs.Literals.{has_port}
use Rattle.state_space.specs.State.{State, IsMadeOf, number_made, port_at, leaves_under}
use Rattle.state_space.specs.Covers.{Covers}
use Rattle.state_space.specs.Entails.{entails, fits}
use Rattle.state_space.specs.Root.{new_instance}
use Rattle.state_space.specs.Generation.{PortOf, first_open, open_port_passes, can_generate, owes_instance, ports_after, target_at, generated_for, generated}
use Rattle.state_space.specs.Whole.{is_whole, is_whole_of, links_left, instance_left}
use Rattle.state_space.specs.Changes.{ChangesBy, is_narrowing}
use Rattle.state_space.specs.Laws.{OwedIsLinked, FittingIsEntailed}
use Rattle.state_space.proofs.OfIds.{ChangeKeeps, WholeCoversNoMore, WholeCoversItsOwn}
use Rattle.state_space.proofs.PortLaws.{all_has, counted, one}
use Rattle.state_space.proofs.EntailsLaws.{allowed_parts, port_parts, links_ascend, spelled_links_at, covered_at}
use Rattle.state_space.proofs.NarrowingLaws.{true_along}
use Rattle.state_space.proofs.OpenPort.{find_place, IsFirstOpen}
use Rattle.state_space.proofs.WholeLaws.{instance_is, built_at, map_read, whole_covers_only_one}
use Rattle.state_space.proofs.GenerationKept.{first_open_is, enumerated_at, generation_keeps}
use Rattle.state_space.proofs.ChangeLaws.{change_is_exact}
use Rattle.state_space.proofs.EntailedAfter.{change_entails}

-- ---- what is owed is linked

-- where some count, some pass
some_counted : (test : ℕ → Bool) (xs : List ℕ) → 1 ≤ count_by test xs → IsTrue (list_any test xs)
some_counted test [] some = absurd (omega (arith, some))
some_counted test (x ∷ xs) some = by (test x) (counted test x xs) (some_counted test xs)
  where
    by : (b : Bool) → count_by test (x ∷ xs) ≡ one b + count_by test xs → (1 ≤ count_by test xs → IsTrue (list_any test xs)) → IsTrue (b || list_any test xs)
    by true is rest = refl
    by false is rest = rest (omega (arith, some, is))

pub owed_is_linked : OwedIsLinked
owed_is_linked m s c state owes h =
    let found = option_map_or_at (λ at. option_map_or (λ q. nat_le 1 q.fresh_low) (port_at s at.instance at.port) false) (first_open m s) owes in
    let port = option_map_or_at (λ q. nat_le 1 q.fresh_low) (port_at s found.0.instance found.0.port) found.2 in
    true_along _ _ (sym (ap (λ o. option_map_or (λ at. list_any (nat_le (number_made s)) (links_at_instance m c at.port at.instance)) o false) found.1))
    (by found.0 (first_open_is m s found.0 found.1) port.0 port.1 (leb-true 1 port.0.fresh_low port.2))
  where
    by : (at : PortOf) → IsFirstOpen m 0 s.made at → (q : PortState) → port_at s at.instance at.port ≡ Some q → 1 ≤ q.fresh_low
        → IsTrue (list_any (nat_le (number_made s)) (links_at_instance m c at.port at.instance))
    by at f q is least =
        let place : at.instance ≡ f.skipped = omega (arith, f.instance) in
        let stands : port_of_made f.made at.port ≡ Some q =
        sym (ap (option_and_then (λ x. port_of_made x at.port)) f.there) ∙ (ap (λ i. port_at s i at.port) (sym place) ∙ is) in
        let y = covered_at m s c state h f.skipped f.made f.there in
        let kind : f.kind ≡ y.0.kind = elim (or_cases (f.kind == y.0.kind) false (ap (λ ks. has_number ks y.0.kind) (sym f.sole) ∙ y.1.covered.kind)) [
          | inl here ↦ eqb-true f.kind y.0.kind here
          | inr none ↦ absurd (false≢true none)
        ] in
        let has : IsTrue (has_port m y.0.kind at.port) =
        subst (λ t. IsTrue (has_port m t at.port)) kind (list_any_from (λ p. p.id == at.port) (ports_at m f.kind) f.place f.port f.port_there (eq-eqb f.port.id at.port f.port_id)) in
        let allowed : IsTrue (allows q (parted (number_made s) (links_of m y.0 at.port))) =
        true_along _ _ (ap (λ o. option_map_or (λ q. allows q (parted (number_made s) (links_of m y.0 at.port))) o false) stands) (y.1.covered.links at.port has) in
        let later = (allowed_parts (number_made s) q (links_of m y.0 at.port) allowed).least in
        let links : links_at_instance m c at.port at.instance ≡ links_of m y.0 at.port =
        ap (λ i. links_at_instance m c at.port i) place ∙ ap (λ o. option_map_or (λ x. links_of m x at.port) o []) y.1.there in
        subst (λ ls. IsTrue (list_any (nat_le (number_made s)) ls)) (sym links) (some_counted (nat_le (number_made s)) (links_of m y.0 at.port) (omega (arith, least, later)))

-- ---- a whole state covers no more

-- what stands in two lists joined stands in one of them
pub in_joined : {X : Type 0} (xs ys : List X) (k : ℕ) (x : X) → IsAt (xs ++ ys) k x → ((j : ℕ) × IsAt xs j x) ⊎ ((j : ℕ) × IsAt ys j x)
in_joined [] ys k x at = inr (k, at)
in_joined (z ∷ xs) ys zero x at = inl (0, at)
in_joined (z ∷ xs) ys (suc k) x at = elim (in_joined xs ys k x at) [
  | inl first ↦ inl (suc first.0, first.1)
  | inr later ↦ inr later
]

-- what stands in lists joined stands in one of them
pub in_flat : {X A : Type 0} (f : X → List A) (xs : List X) (k : ℕ) (a : A) → IsAt (flat_map f xs) k a → (i : ℕ) × (x : X) × (j : ℕ) × IsAt xs i x × IsAt (f x) j a
in_flat f [] k a at = absurd (none-some a at)
in_flat f (x ∷ xs) k a at = elim (in_joined (f x) (flat_map f xs) k a at) [
  | inl here ↦ (0, x, here.0, refl, here.1)
  | inr later ↦ let rest = in_flat f xs later.0 a later.1 in (suc rest.0, rest.1, rest.2, rest.3, rest.4)
]

-- instance i links instance n by one of its ports
record Links (c : List Instance) (i n : ℕ) : Type 0 where
  pub instance : Instance
  pub there : IsAt c i instance
  pub place : ℕ
  pub links : List ℕ
  pub links_there : IsAt instance.links place links
  pub linked : IsTrue (has_number links n)

abbrev link_from : ℕ → ℕ → Link
link_from i j = record { from = i; to = j }

-- a link stands in the list of a port
link_at : (c : List Instance) (k : ℕ) (l : Link) → IsAt (all_links c) k l → Links c l.from l.to
link_at c k l at =
    let e = in_flat (λ (e : ℕ × Instance). flat_map (map (link_from e.0)) e.1.links) (enumerate_from 0 c) k l at in
    let p = in_flat (map (link_from e.1.0)) e.1.1.links e.2 l e.4 in
    let t = map_read (link_from e.1.0) p.1 p.2 l p.4 in
    let i = enumerated_at 0 c e.0 e.1 e.3 in
    let from : l.from ≡ e.0 = ap (λ k. k.from) t.2 ∙ omega (arith, i.0) in
    record {
      instance = e.1.1;
      there = subst (λ j. IsAt c j e.1.1) (sym from) i.1;
      place = p.0;
      links = p.1;
      links_there = p.3;
      linked = list_any_from (λ j. j == l.to) p.1 p.2 t.0 t.1 (eq-eqb t.0 l.to (sym (ap (λ k. k.to) t.2)));
    }

-- in a numbered configuration a lower instance links each one from 1 on
linked_lower : (c : List Instance) (n : ℕ) → IsTrue (is_numbered c) → 1 ≤ n → n < length c → (i : ℕ) × (i < n) × Links c i n
unfolding is_numbered
linked_lower c zero numbered some within = absurd (omega (arith, some))
linked_lower c (suc a) numbered some within =
    let turn : IsTrue (is_in_turn c (1 + a)) = list_all_below (is_in_turn c) 1 (length c - 1) a numbered (omega (arith, within)) in
    let number : 1 + a ≡ suc a = omega arith in
    let turn' : IsTrue (is_in_turn c (suc a)) = subst (λ n. IsTrue (is_in_turn c n)) number turn in
    let lower = (and_parts (is_mentioned_lower c (suc a)) ((suc a == 1) || is_mentioned_before c (suc a - 1) (suc a)) turn').0 in
    by (find (λ l. l.to == suc a) (all_links c)) refl lower
  where
    by : (o : Option Link) → find (λ l. l.to == suc a) (all_links c) ≡ o → IsTrue (option_map_or (λ i. nat_lt i (suc a)) (option_map (λ l. l.from) o) false)
        → (i : ℕ) × (i < suc a) × Links c i (suc a)
    by None is low = absurd (false≢true low)
    by (Some l) is low =
        let found = find_place (λ l. l.to == suc a) (all_links c) l is in
        (l.from, ltb-true l.from (suc a) low, subst (Links c l.from) (eqb-true l.to (suc a) found.2) (link_at c found.0 l found.1))

pub whole_covers_no_more : WholeCoversNoMore
unfolding is_whole
whole_covers_no_more m s c ids state whole h numbered = by (nat_lt (number_made s) (length c)) refl
  where
    n : ℕ
    n = number_made s

    -- what a made instance must link is made
    left : (x : MadeInstance) (p : ℕ) → IsMadeOf m n x → (o : Option PortState) → port_of_made x p ≡ o → ¬ IsTrue (has_number (option_map_or (λ q. q.required) o []) n)
    left x p made None is linked = false≢true linked
    left x p made (Some q) is linked =
        let port = made.ports p q is in
        let possible = all_has (has_number q.possible) q.required n (port_parts q port.formed).within linked in
        let early = ltb-true n n (all_has (λ j. nat_lt j n) q.possible n port.to_made possible) in
        omega (arith, early)

    none : n < length c → ⊥
    none more =
        let found = linked_lower c n numbered (is_between_at 1 m.instances n state.size).0 more in
        let i = found.0 in
        let by = found.2 in
        let y = by.instance in
        let nothing : MadeInstance = record { kinds = []; domains = []; ports = [] } in
        let x = get_or s.made i nothing in
        let at_x : IsAt s.made i x = slice_get-get_or s.made i nothing found.1 in
        let parts = built_at m c i y h.spelled by.there in
        let same : y ≡ instance_left m x =
        instance_is m s c ids state h i x y at_x by.there (list_all_at (λ x. is_whole_of s x x.kinds) s.made whole i x at_x) parts.0 parts.1
        (λ p. links_ascend m y p (spelled_links_at m c i y h.spelled by.there)) in
        let read = map_read (λ p. links_left x p.id) (ports_at m (instance_left m x).kind) by.place by.links (subst (λ z. IsAt z.links by.place by.links) same by.links_there) in
        left x read.0.id (state.each i x at_x) (port_of_made x read.0.id) refl (subst (λ ls. IsTrue (has_number ls n)) read.2 by.linked)

    by : (b : Bool) → nat_lt n (length c) ≡ b → length c ≡ n
    by true is = absurd (none (ltb-true n (length c) is))
    by false is = let enough : n ≤ length c = h.enough in grind (arith, nat_tests, is, enough)

pub whole_covers_its_own : WholeCoversItsOwn
whole_covers_its_own m s c ids state whole h numbered = whole_covers_only_one m s c ids state whole h (whole_covers_no_more m s c ids state whole h numbered)

-- ---- any change by a literal that fits

-- a literal narrows, or is `Made`
pub narrows_or_made : (l : Literal) → IsTrue (is_narrowing l) ⊎ ((i : ℕ) × (l ≡ literal.Made i))
narrows_or_made (literal.Made i) = inr (i, refl)
narrows_or_made (literal.Kind i t) = inl refl
narrows_or_made (literal.NotKind i t) = inl refl
narrows_or_made (literal.AtMost i a n) = inl refl
narrows_or_made (literal.AtLeast i a n) = inl refl
narrows_or_made (literal.ValueIsNot i a n) = inl refl
narrows_or_made (literal.Linked i p j) = inl refl
narrows_or_made (literal.NotLinked i p j) = inl refl
narrows_or_made (literal.LinksAtMost i p n) = inl refl
narrows_or_made (literal.LinksAtLeast i p n) = inl refl
narrows_or_made (literal.FreshAtMost i p from n) = inl refl
narrows_or_made (literal.FreshAtLeast i p from n) = inl refl

pub change_keeps : ChangeKeeps
unfolding fits
change_keeps m l result old new c ids whole state fit changes some h shape numbered holds = elim (narrows_or_made l) [
  | inl narrows ↦ (change_is_exact m l result old new c state fit narrows changes some).1 (h, holds)
  | inr made ↦ by made.0 (subst (λ k. IsTrue (fits m old k)) made.1 fit) (subst (λ k. ChangesBy m k result old new) made.1 changes)
]
  where
    by : (i : ℕ) → IsTrue (fits m old (literal.Made i)) → ChangesBy m (literal.Made i) result old new → Covers m new c
    by i fit changes =
        let both = and_parts ((i == number_made old) && can_generate m old) (owes_instance m old) fit in
        subst (λ s. Covers m s c) (sym changes.1) (generation_keeps m old c ids whole state h shape numbered (owed_is_linked m old c state both.1 h))

-- one more is made by a generation
pub made_by_generation : (m : Model) (s : State) → IsTrue (can_generate m s) → number_made (generated m s) ≡ number_made s + 1
unfolding generated
made_by_generation m s can =
    let passes = (and_parts (nat_lt (number_made s) m.instances) (open_port_passes m s (λ q. nat_le 1 q.fresh_high)) can).1 in
    let found = option_map_or_at (λ at. option_map_or (λ q. nat_le 1 q.fresh_high) (port_at s at.instance at.port) false) (first_open m s) passes in
    ap (λ o. number_made (option_map_or (generated_for m s) o s)) found.1 ∙ long found.0
  where
    numbered_long : (i : ℕ) (xs : List MadeInstance) → length (enumerate_from i xs) ≡ length xs
    numbered_long i [] = refl
    numbered_long i (x ∷ xs) = ap suc (numbered_long (i + 1) xs)

    long : (at : PortOf) → number_made (generated_for m s at) ≡ number_made s + 1
    long at =
        let change : ℕ × MadeInstance → MadeInstance = λ e. record e.1 { ports = ports_after (number_made s) at e.0 e.1.ports } in
        length-append (map change (enumerate_from 0 s.made)) (new_instance m (leaves_under m (target_at m s at)) (range_with_len 0 (number_made s + 1)) ∷ [])
        ∙ ap (λ n. n + 1) (length-map (enumerate_from 0 s.made) change ∙ numbered_long 0 s.made)

pub fitting_is_entailed : FittingIsEntailed
unfolding fits entails
fitting_is_entailed m l result old new state fit changes some = elim (narrows_or_made l) [
  | inl narrows ↦ change_entails m l result old new state fit narrows changes some
  | inr made ↦ subst (λ k. IsTrue (entails m new k)) (sym made.1) (by made.0 (subst (λ k. IsTrue (fits m old k)) made.1 fit) (subst (λ k. ChangesBy m k result old new) made.1 changes))
]
  where
    by : (i : ℕ) → IsTrue (fits m old (literal.Made i)) → ChangesBy m (literal.Made i) result old new → IsTrue (entails m new (literal.Made i))
    by i fit changes =
        let both = and_parts ((i == number_made old) && can_generate m old) (owes_instance m old) fit in
        let first = and_parts (i == number_made old) (can_generate m old) both.0 in
        let long : number_made new ≡ number_made old + 1 = ap number_made changes.1 ∙ made_by_generation m old first.1 in
        lt-ltb i (number_made new) (omega (arith, long, eqb-true i (number_made old) first.0))
