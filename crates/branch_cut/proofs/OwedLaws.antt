-- An instance that has to be made for the first open port.
use Rattle.std.proofs.Common.{◌≡◌, ℕ, ◌+◌, ◌<◌, ◌≤◌, Bool, false, not, ◌&&◌, List, [], length, refl, ap, sym, ◌∙◌, subst, inl, inr, Some, None, Option, arith, lt-ltb, leb-true}
use Rattle.std.specs.Prelude.{IsTrue, IsSome, ◌==◌, nat_lt, nat_le}
use Rattle.std.specs.Option.{option_map_or, option_map, option_and_then, is_some, ForSome}
use Rattle.std.specs.List.{list_all, list_any, count_by}
use Rattle.std.proofs.lemmas.Bool.{and_parts, and_from, or_cases, eqb-true, eq-eqb, false≢true, false_from_ne_true, not_from_false}
use Rattle.std.proofs.lemmas.Bool.Decides.{nat_tests}
use Rattle.std.proofs.lemmas.Option.{slice_get_within, none-some, same_Some}
use Rattle.base_laws.specs.Places.{IsAt}
use Rattle.base_laws.proofs.Tests.{list_any_at, list_any_from, option_map_or_at, option_map_or_from}
use Rattle.prod_model.specs.declared.model.Model.{Model}
use Rattle.prod_model.specs.Valid.{IsValid}
use Rattle.prod_model.specs.Taxonomy.{ports_at}
use Rattle.config_value.specs.declared.configuration.Instance.{Instance}
use Rattle.config_value.specs.declared.literal.Literal.TheVariants as literal
use Rattle.config_value.specs.Literals.{has_port, has_literal, count_from}
use Rattle.config_value.specs.Value.{links_of, links_at_instance}
use Rattle.config_value.specs.Shaped.{is_shaped}
use Rattle.config_value.specs.ShapedSentences.{HasShape}
use Rattle.config_value.specs.Numbered.{is_numbered}
use Rattle.config_value.specs.Satisfies.{satisfies, follows_rules}
use Rattle.config_value.proofs.ShapedSentences.{shaped_sentences}
use Rattle.config_value.proofs.Places.{is_between_at}
use Rattle.state_space.specs.Made.{port_of_made}
use Rattle.state_space.specs.Ports.{PortState, is_closed}
use Rattle.state_space.specs.Sets.{has_number}
use Rattle.state_space.specs.State.{State, IsState, number_made, port_at}
use Rattle.state_space.specs.Covers.{Covers}
use Rattle.state_space.specs.Entails.{entails, fits, all_have_port}
use Rattle.state_space.specs.Generation.{PortOf, first_open, open_port_passes, can_generate, owes_instance}
use Rattle.state_space.proofs.EntailsLaws.{covered_at, port_parts}
use Rattle.state_space.proofs.DescriptionLaws.{port_is}
use Rattle.state_space.proofs.GenerationKept.{first_open_is, port_links}
use Rattle.state_space.proofs.NarrowingLaws.{true_along}
use Rattle.state_space.proofs.OpenPort.{IsFirstOpen}
use Rattle.state_space.proofs.PortLaws.{count_by-member}
use Rattle.state_space.proofs.SearchLaws.{owed_is_linked}
use Rattle.state_space.proofs.ValidLaws.{valid_has_ids}
use Rattle.branch_cut.specs.Branching.{is_stuck_in, IsBranch}
use Rattle.branch_cut.specs.Laws.{OwedBranch, StuckCoversNone}
use Rattle.branch_cut.proofs.BranchLaws.{all_kinds_at, port_fails}

-- a configuration that satisfies the model is shaped
shape_of : (m : Model) (c : List Instance) → IsTrue (satisfies m c) → HasShape m c
unfolding satisfies
shape_of m c satisfied =
    (shaped_sentences m c).0 (and_parts (is_shaped m c) (is_numbered c) (and_parts (is_shaped m c && is_numbered c) (follows_rules m c) satisfied).0).0

-- the instance of a covered configuration whose port links a later one
record LinksLater (m : Model) (s : State) (c : List Instance) (at : PortOf) : Type 0 where
  instance : Instance
  there : IsAt c at.instance instance
  has : IsTrue (has_port m instance.kind at.port)
  later : IsTrue (list_any (nat_le (number_made s)) (links_of m instance at.port))

module _ (m : Model) (s : State) (state : IsState m s) (at : PortOf) (is : first_open m s ≡ Some at) where
  opened : IsFirstOpen m 0 s.made at
  opened = first_open_is m s at is

  place_is : opened.skipped ≡ at.instance
  place_is = let place = opened.instance in omega (arith, place)

  made_there : IsAt s.made at.instance opened.made
  made_there = subst (λ i. IsAt s.made i opened.made) place_is opened.there

  -- the type of the instance has the port
  has_open_port : IsTrue (has_port m opened.kind at.port)
  has_open_port = list_any_from (λ p. p.id == at.port) (ports_at m opened.kind) opened.place opened.port opened.port_there (eq-eqb opened.port.id at.port opened.port_id)

  pub all_have_open_port : IsTrue (all_have_port m s at.instance at.port)
  all_have_open_port =
      all_kinds_at s at.instance opened.made (λ t. has_port m t at.port) made_there
      ∙ (ap (list_all (λ t. has_port m t at.port)) opened.sole ∙ and_from _ _ has_open_port refl)

  -- in a covered configuration the port links a later instance, where one has to be made
  links_later_at : (c : List Instance) → IsTrue (owes_instance m s) → Covers m s c → LinksLater m s c at
  links_later_at c owes h =
      let y = covered_at m s c state h at.instance opened.made made_there in
      let later = true_along _ _ (ap (λ o. option_map_or (λ at. list_any (nat_le (number_made s)) (links_at_instance m c at.port at.instance)) o false) is) (owed_is_linked m s c state owes h) in
      record {
        instance = y.0;
        there = y.1.there;
        has = subst (λ t. IsTrue (has_port m t at.port)) (kind_is y.0 y.1.covered.kind) has_open_port;
        later = true_along _ _ (ap (λ o. list_any (nat_le (number_made s)) (option_map_or (λ x. links_of m x at.port) o [])) y.1.there) later;
      }
    where
      kind_is : (y : Instance) → IsTrue (has_number opened.made.kinds y.kind) → opened.kind ≡ y.kind
      kind_is y has = elim (or_cases (opened.kind == y.kind) false (ap (λ ks. has_number ks y.kind) (sym opened.sole) ∙ has)) [
        | inl here ↦ eqb-true opened.kind y.kind here
        | inr none ↦ absurd (false≢true none)
      ]

  -- so there are more instances than are made
  more_are_there : (c : List Instance) → IsValid m → IsTrue (owes_instance m s) → Covers m s c → HasShape m c → number_made s < length c
  more_are_there c valid owes h shape =
      let late = links_later_at c owes h in
      let q = port_links m c (valid_has_ids m valid) shape at.instance late.instance late.there at.port late.has in
      let link = list_any_at (nat_le (number_made s)) (links_of m late.instance at.port) late.later in
      let under = q.2.on_target link.0 link.1 link.2 in
      let within = slice_get_within c link.1 under.instance under.there in
      let past = leb-true (number_made s) link.1 link.3 in
      omega (arith, within, past)

-- where an instance has to be made and one is left, one can be made
can_be_made : (m : Model) (s : State) → IsState m s → IsTrue (owes_instance m s) → is_stuck_in m s ≡ false → IsTrue (can_generate m s)
can_be_made m s state owes room = and_from _ _ below (opens found.0 found.1 found.2)
  where
    found : (at : PortOf) × (first_open m s ≡ Some at) × IsTrue (option_map_or (λ q. nat_le 1 q.fresh_low) (port_at s at.instance at.port) false)
    found = option_map_or_at (λ (at : PortOf). option_map_or (λ q. nat_le 1 q.fresh_low) (port_at s at.instance at.port) false) (first_open m s) owes

    below : IsTrue (nat_lt (number_made s) m.instances)
    below =
        let size = is_between_at 1 m.instances (number_made s) state.size in
        let apart : number_made s == m.instances ≡ false = false_from_ne_true _ (λ all. false≢true (sym room ∙ and_from _ _ owes all)) in
        grind (arith, nat_tests, size.1, apart)

    opens : (at : PortOf) → first_open m s ≡ Some at → IsTrue (option_map_or (λ q. nat_le 1 q.fresh_low) (port_at s at.instance at.port) false)
        → IsTrue (open_port_passes m s (λ q. nat_le 1 q.fresh_high))
    opens at is least =
        let q = option_map_or_at (λ q. nat_le 1 q.fresh_low) (port_at s at.instance at.port) least in
        let bounds = (port_parts q.0 (port_is m s at.instance at.port q.0 state q.1).formed).bounds in
        let low = leb-true 1 q.0.fresh_low q.2 in
        let high : IsTrue (nat_le 1 q.0.fresh_high) = grind (arith, nat_tests, low, bounds) in
        option_map_or_from (λ (at : PortOf). option_map_or (λ q. nat_le 1 q.fresh_high) (port_at s at.instance at.port) false) (first_open m s) at is
        (option_map_or_from (λ q. nat_le 1 q.fresh_high) (port_at s at.instance at.port) q.0 q.1 high)

pub owed_branch : OwedBranch
unfolding fits entails has_literal
owed_branch m s at valid state owes room is = record {
  choice = λ c h satisfied.
      let late = links_later_at m s state at is c owes h in
      let more = more_are_there m s state at is c valid owes h (shape_of m c satisfied) in
      ap (λ o. option_map_or (λ x. has_port m x.kind at.port && nat_le (count_from (number_made s) (links_of m x at.port)) 0) o false) late.there
      ∙ (none_or (has_port m late.instance.kind at.port) (number_made s) (links_of m late.instance at.port) late.later ∙ sym (ap not (lt-ltb (number_made s) (length c) more)));
  fits =
      let n = number_made s in
      let can = can_be_made m s state owes room in
      and_from _ _
      (and_from _ _ (and_from _ _ (eq-eqb n n refl) can) owes)
      (and_from _ _ (all_have_open_port m s state at is) (eq-eqb n n refl));
  unknown =
      and_from _ _ (not_from_false _ (not_below (number_made s)))
      (not_from_false _ (port_fails m s at.instance at.port port.0 (λ q. nat_le (count_by (nat_le (number_made s)) q.possible + q.fresh_high) 0) port.1 open_above));
}
  where
    not_below : (n : ℕ) → nat_lt n n ≡ false
    not_below n = grind (arith, nat_tests)

    none_or : (has : Bool) (n : ℕ) (links : List ℕ) → IsTrue (list_any (nat_le n) links) → (has && nat_le (count_by (nat_le n) links) 0) ≡ false
    none_or has n links later =
        let link = list_any_at (nat_le n) links later in
        let some : 1 ≤ count_by (nat_le n) links = count_by-member (nat_le n) links link.1 (list_any_from (λ j. j == link.1) links link.0 link.1 link.2 (eq-eqb link.1 link.1 refl)) link.3 in
        false_from_ne_true _ (λ both. let zero = leb-true (count_by (nat_le n) links) 0 (and_parts has _ both).1 in absurd (omega (arith, some, zero)))

    port : (q : PortState) × (port_at s at.instance at.port ≡ Some q) × IsTrue (nat_le 1 q.fresh_low)
    port = option_map_or_at (λ q. nat_le 1 q.fresh_low) (port_at s at.instance at.port)
        (true_along _ _ (ap (λ o. option_map_or (λ at. option_map_or (λ q. nat_le 1 q.fresh_low) (port_at s at.instance at.port) false) o false) is) owes)

    open_above : nat_le (count_by (nat_le (number_made s)) port.0.possible + port.0.fresh_high) 0 ≡ false
    open_above =
        let bounds = (port_parts port.0 (port_is m s at.instance at.port port.0 state port.1).formed).bounds in
        let low = leb-true 1 port.0.fresh_low port.2 in
        past (count_by (nat_le (number_made s)) port.0.possible) port.0.fresh_high (omega (arith, bounds, low))
      where
        past : (k high : ℕ) → 1 ≤ high → nat_le (k + high) 0 ≡ false
        past k high some = grind (arith, nat_tests, some)

pub stuck_covers_none : StuckCoversNone
stuck_covers_none m s c state valid stuck h = false_from_ne_true _ (λ satisfied.
    let both = and_parts (owes_instance m s) (number_made s == m.instances) stuck in
    let found = option_map_or_at (λ (at : PortOf). option_map_or (λ q. nat_le 1 q.fresh_low) (port_at s at.instance at.port) false) (first_open m s) both.0 in
    let shape = shape_of m c satisfied in
    let more = more_are_there m s state found.0 found.1 c valid both.0 h shape in
    let all = eqb-true (number_made s) m.instances both.1 in
    let few = shape.size.1 in
    absurd (omega (arith, more, all, few)))

-- ---- the first open port, as its place is told

-- the first open port is told by its place
pub told_port : (m : Model) (s : State) (o : Option (ℕ × ℕ)) (e : ℕ × ℕ) → o ≡ option_map (λ at. (at.instance, at.port)) (first_open m s) → o ≡ Some e
    → first_open m s ≡ Some (record { instance = e.0; port = e.1 })
told_port m s o e told is = by (first_open m s) refl
  where
    by : (f : Option PortOf) → first_open m s ≡ f → first_open m s ≡ Some (record { instance = e.0; port = e.1 })
    by None none = absurd (none-some e (sym (ap (option_map (λ (at : PortOf). (at.instance, at.port))) none) ∙ (sym told ∙ is)))
    by (Some at) some =
        let same : (at.instance, at.port) ≡ e = same_Some (at.instance, at.port) e (sym (ap (option_map (λ (at : PortOf). (at.instance, at.port))) some) ∙ (sym told ∙ is)) in
        some ∙ ap (λ (e : ℕ × ℕ). let at : PortOf = record { instance = e.0; port = e.1 } in Some at) same

-- it has links that it may have
pub open_port_there : (m : Model) (s : State) (at : PortOf) → first_open m s ≡ Some at → IsSome (port_at s at.instance at.port)
open_port_there m s at is =
    let f = first_open_is m s at is in
    let place : f.skipped ≡ at.instance = let place = f.instance in omega (arith, place) in
    let made : IsAt s.made at.instance f.made = subst (λ i. IsAt s.made i f.made) place f.there in
    let q = option_map_or_at (λ q. not (is_closed q)) (port_of_made f.made f.port.id) f.opened in
    ap is_some (ap (option_and_then (λ x. port_of_made x at.port)) made ∙ ap (port_of_made f.made) (sym f.port_id) ∙ q.1)

-- the next instance is made, or the port that is told links no later one
pub owed_told : (m : Model) (s : State) (o : Option (ℕ × ℕ)) (i p n : ℕ) → IsValid m → IsState m s → is_some o ≡ owes_instance m s → is_stuck_in m s ≡ false
    → ForSome o (λ e. first_open m s ≡ Some (record { instance = e.0; port = e.1 })) → o ≡ Some (i, p) → n ≡ number_made s
    → IsBranch m s (record { first = literal.Made n; second = literal.FreshAtMost i p n 0 })
owed_told m s o i p n valid state owed room open_port is made =
    let at : PortOf = record { instance = i; port = p } in
    subst (λ n. IsBranch m s (record { first = literal.Made n; second = literal.FreshAtMost i p n 0 })) (sym made)
    (owed_branch m s at valid state (sym owed ∙ ap is_some is) room (open_port (i, p) is))
