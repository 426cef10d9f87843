-- Instances of which no branch is left, and the whole state that they make.
use Rattle.std.proofs.Common.{◌≡◌, ℕ, zero, suc, ◌+◌, ◌<◌, ℤ, pos, Bool, true, false, not, ◌||◌, List, [], ◌∷◌, length, map, get_or, refl, ap, sym, ◌∙◌, subst, inl, inr, Some, None, Option, slice_get, arith, ltb-true, zero-add}
use Rattle.std.specs.Prelude.{IsTrue, IsSome, ◌==◌, nat_le, int_le, slice_index_or}
use Rattle.std.specs.Option.{option_map_or, option_and_then, is_some, ForSome}
use Rattle.std.specs.List.{list_all, find, zip, range_with_len}
use Rattle.std.specs.Ordering.{int_eq}
use Rattle.std.proofs.lemmas.Bool.{and_parts, and_from, or_left, or_right, eqb-true, eq-eqb, false≢true, false_from_ne_true, not_from_false}
use Rattle.std.proofs.lemmas.Bool.Decides.{nat_tests}
use Rattle.std.proofs.lemmas.Int.{ints}
use Rattle.std.proofs.lemmas.Option.{none-some, same_Some, slice_get-get_or, slice_get_within, get_or_from_slice_get}
use Rattle.std.proofs.lemmas.List.FromFn.{length-range_with_len}
use Rattle.base_laws.specs.Places.{IsAt}
use Rattle.base_laws.proofs.Lists.{zip_first, zip_second}
use Rattle.base_laws.proofs.Places.{map_at}
use Rattle.base_laws.proofs.Ranges.{slice_get_range_with_len}
use Rattle.base_laws.proofs.Searches.{any_found}
use Rattle.base_laws.proofs.Tests.{list_all_at, list_all_from, list_any_at, list_any_from, option_map_or_at, option_map_or_from}
use Rattle.prod_model.specs.declared.model.Model.{Model}
use Rattle.prod_model.specs.declared.model.AttrAt.{AttrAt}
use Rattle.prod_model.specs.declared.model.PortAt.{PortAt}
use Rattle.prod_model.specs.Forest.{is_leaf}
use Rattle.prod_model.specs.Taxonomy.{attributes_at, ports_at}
use Rattle.config_value.specs.Literals.{has_attribute, has_port}
use Rattle.state_space.specs.Made.{MadeInstance, domain_of, port_of_made}
use Rattle.state_space.specs.Values.{Values, least, greatest, are_values}
use Rattle.state_space.specs.Ports.{PortState, is_closed}
use Rattle.state_space.specs.Sets.{has_number}
use Rattle.state_space.specs.State.{State, IsState, number_made, kinds_at, domain_at, port_at, low_at, high_at, leaves_that, first_attributes, first_ports}
use Rattle.state_space.specs.Generation.{PortOf, is_open, first_open, first_open_from, open_port_or, owes_instance}
use Rattle.state_space.specs.Whole.{has_one_value, is_settled_port, all_of_type, is_whole_of, is_whole}
use Rattle.state_space.proofs.PortLaws.{has_number-filter}
use Rattle.state_space.proofs.ValuesLaws.{le-greatest, least-in}
use Rattle.state_space.proofs.GenerationKept.{first_open_is}
use Rattle.partial_state.proofs.WholeParts.{one_value}
use Rattle.state_space.specs.Entails.{all_kinds, all_have_attribute, all_have_port}
use Rattle.state_space.proofs.DescribedParts.{domain_there}
use Rattle.branch_cut.specs.declared.branch.Branch.{Branch}
use Rattle.branch_cut.specs.Branching.{IsBranch}
use Rattle.branch_cut.specs.steps.Fixed.{has_one_at, is_decided, is_decided_at, IsFixed, SplitsValues, SplitsPort}
use Rattle.branch_cut.proofs.BranchLaws.{made_with, leaf_at, all_kinds_at, values_branch, links_branch, later_branch}

-- ---- one value

-- where the greatest value is no more than the least, there is one
pub one_left : (s : State) (i a : ℕ) → IsSome (domain_at s i a) → ForSome (domain_at s i a) (λ d. IsTrue (are_values d)) → IsTrue (int_le (high_at s i a) (low_at s i a)) → IsTrue (has_one_at s i a)
one_left s i a some formed flat = by (domain_at s i a) some formed flat
  where
    by : (o : Option Values) → IsSome o → ForSome o (λ d. IsTrue (are_values d)) → IsTrue (int_le (option_map_or greatest o (pos 0)) (option_map_or least o (pos 0)))
        → IsTrue (option_map_or has_one_value o false)
    by None some formed flat = absurd (false≢true some)
    by (Some d) some formed flat =
        let are = formed d refl in
        let least_first = le-greatest d (least d) are (least-in d are) in
        sym (one_value d are) ∙ same (least d) (greatest d) least_first flat
      where
        same : (l g : ℤ) → IsTrue (int_le l g) → IsTrue (int_le g l) → IsTrue (int_eq l g)
        same l g first flat = grind (arith, ints, first, flat)

-- ---- the first open port of fixed instances

-- no port of an instance of one type is open
abbrev pub NoneOpen : Model → MadeInstance → Type 0
NoneOpen m x = (t : ℕ) → x.kinds ≡ t ∷ [] → (k : ℕ) (p : PortAt) → IsAt (ports_at m t) k p → is_open x p.id ≡ false

-- where there is no first open port, instances of one type each have no open port
none_open : (m : Model) (i : ℕ) (xs : List MadeInstance) → ((k : ℕ) (x : MadeInstance) → IsAt xs k x → (t : ℕ) × (x.kinds ≡ t ∷ [])) → first_open_from m i xs ≡ None
    → (k : ℕ) (x : MadeInstance) → IsAt xs k x → NoneOpen m x
none_open m i [] single none k x at = absurd (none-some x at)
none_open m i (y ∷ ys) single none k x at =
    let kind = single 0 y refl in
    by kind.0 kind.1 (find (λ p. is_open y p.id) (ports_at m kind.0)) refl (sym (ap (open_port_or m i y (first_open_from m (i + 1) ys)) kind.1) ∙ none)
    (λ left k at. none_open m (i + 1) ys (λ k. single (suc k)) left k x at) k at
  where
    later : Option PortOf
    later = first_open_from m (i + 1) ys

    here : (t : ℕ) → y.kinds ≡ t ∷ [] → find (λ p. is_open y p.id) (ports_at m t) ≡ None → NoneOpen m y
    here t kind found u other k p at = false_from_ne_true _ (λ opens. false≢true
        (sym (any_found (λ p. is_open y p.id) (ports_at m t) ∙ ap is_some found)
        ∙ list_any_from (λ p. is_open y p.id) (ports_at m t) k p (subst (λ t. IsAt (ports_at m t) k p) (same u t (sym other ∙ kind)) at) opens))
      where
        same : (u t : ℕ) → u ∷ [] ≡ t ∷ [] → u ≡ t
        same u t is = ap (λ ks. slice_index_or ks 0 0) is

    by : (t : ℕ) → y.kinds ≡ t ∷ [] → (o : Option PortAt) → find (λ p. is_open y p.id) (ports_at m t) ≡ o
        → option_map_or (λ p. let at : PortOf = record { instance = i; port = p.id } in Some at) o later ≡ None
        → (later ≡ None → (k : ℕ) → IsAt ys k x → NoneOpen m x) → (k : ℕ) → IsAt (y ∷ ys) k x → NoneOpen m x
    by t kind (Some p) found none rest k at = absurd (none-some _ (sym none))
    by t kind None found none rest zero at = subst (NoneOpen m) (same_Some y x at) (here t kind found)
    by t kind None found none rest (suc k) at = rest none k at

-- ---- whole instances

-- what passes of each id of a type passes of the table
table_whole : {D : Type 0} (test : D → Bool) (m : Model) (has : Model → ℕ → ℕ → Bool) (t n : ℕ) (types : List (List ℕ)) (parts : List (Option D))
    → types ≡ map (λ a. leaves_that m (λ t. has m t a)) (range_with_len 0 n)
    → ((a : ℕ) → IsTrue (has m t a) → IsTrue (option_map_or test (slice_index_or parts a None) false))
    → IsTrue (all_of_type test t types parts)
table_whole {D} test m has t n types parts are each = list_all_from (λ (e : List ℕ × Option D). not (has_number e.0 t) || option_map_or test e.1 false) (zip types parts) (λ a e at.
    by a e (zip_first types parts a e at) (zip_second types parts a e at) (has_number e.0 t) refl)
  where
    types_are : (a : ℕ) (ts : List ℕ) → IsAt types a ts → ts ≡ leaves_that m (λ t. has m t a)
    types_are a ts at =
        let read = map_at (λ a. leaves_that m (λ t. has m t a)) (range_with_len 0 n) a ts (sym (ap (λ l. slice_get l a) are) ∙ at) in
        sym read.2 ∙ ap (λ b. leaves_that m (λ t. has m t b)) (place a read.0 read.1)
      where
        place : (a b : ℕ) → IsAt (range_with_len 0 n) a b → b ≡ a
        place a b at =
            let within = slice_get_within (range_with_len 0 n) a b at in
            let long = length-range_with_len 0 n in
            same_Some b a (sym at ∙ (slice_get_range_with_len 0 n a (omega (arith, within, long)) ∙ ap Some (zero-add a)))

    by : (a : ℕ) (e : List ℕ × Option D) → IsAt types a e.0 → IsAt parts a e.1 → (b : Bool) → has_number e.0 t ≡ b → IsTrue (not (has_number e.0 t) || option_map_or test e.1 false)
    by a e at_types at_parts false lacks = or_left _ _ (not_from_false _ lacks)
    by a e at_types at_parts true there =
        let kept = sym (has_number-filter (λ t. has m t a) _ t) ∙ (ap (λ ts. has_number ts t) (sym (types_are a e.0 at_types)) ∙ there) in
        or_right _ _ (ap (λ o. option_map_or test o false) (sym (get_or_from_slice_get parts a e.1 None at_parts)) ∙ each a (and_parts _ _ kept).1)

-- ---- whole states

module _ (m : Model) (s : State) (state : IsState m s) (fixed : (i : ℕ) → i < number_made s → IsFixed m s i) (owes : owes_instance m s ≡ false) where
  -- what is known of a made instance
  fixed_at : (i : ℕ) (x : MadeInstance) → IsAt s.made i x → IsFixed m s i
  fixed_at i x at = fixed i (slice_get_within s.made i x at)

  sole_at : (i : ℕ) (x : MadeInstance) (at : IsAt s.made i x) → x.kinds ≡ (fixed_at i x at).kind ∷ []
  sole_at i x at = sym (ap (λ o. option_map_or (λ x. x.kinds) o []) at) ∙ (fixed_at i x at).sole

  -- what a port may link that is decided, where no instance is owed
  decided : (i : ℕ) (x : MadeInstance) (at : IsAt s.made i x) (k : ℕ) (p : PortAt) → IsAt (ports_at m (fixed_at i x at).kind) k p
      → (q : PortState) × (port_of_made x p.id ≡ Some q) × IsTrue (is_decided q)
  decided i x at k p there =
      option_map_or_at is_decided (port_of_made x p.id)
      (sym (ap (λ o. option_map_or is_decided (option_and_then (λ x. port_of_made x p.id) o) false) at)
      ∙ list_all_at (λ p. is_decided_at s i p.id) (ports_at m (fixed_at i x at).kind) (fixed_at i x at).ports k p there)

  -- there is no first open port
  no_first_open : first_open m s ≡ None
  no_first_open = by (first_open m s) refl
    where
      by : (o : Option PortOf) → first_open m s ≡ o → o ≡ None
      by None is = refl
      by (Some at) is =
          let f = first_open_is m s at is in
          let same : at.instance ≡ f.skipped = let place = f.instance in omega (arith, place) in
          let kind : f.kind ≡ (fixed_at f.skipped f.made f.there).kind = ap (λ ks. slice_index_or ks 0 0) (sym f.sole ∙ sole_at f.skipped f.made f.there) in
          let q = decided f.skipped f.made f.there f.place f.port (subst (λ t. IsAt (ports_at m t) f.place f.port) kind f.port_there) in
          let opens : IsTrue (not (is_closed q.0)) = sym (ap (λ o. option_map_or (λ q. not (is_closed q)) o false) q.1) ∙ f.opened in
          let bounds = (and_parts (list_all (has_number q.0.required) q.0.possible) (nat_le q.0.fresh_high q.0.fresh_low) q.2).1 in
          let least : IsTrue (nat_le 1 q.0.fresh_low) = owed q.0.fresh_low q.0.fresh_high opens bounds in
          let port : port_at s at.instance at.port ≡ Some q.0 =
          ap (λ i. port_at s i at.port) same ∙ (ap (option_and_then (λ x. port_of_made x at.port)) f.there ∙ (ap (port_of_made f.made) (sym f.port_id) ∙ q.1)) in
          absurd (false≢true (sym owes ∙ option_map_or_from (λ (at : PortOf). option_map_or (λ q. nat_le 1 q.fresh_low) (port_at s at.instance at.port) false) (first_open m s) at is
          (option_map_or_from (λ q. nat_le 1 q.fresh_low) (port_at s at.instance at.port) q.0 port least)))
        where
          owed : (low high : ℕ) → IsTrue (not (high == 0)) → IsTrue (nat_le high low) → IsTrue (nat_le 1 low)
          owed low high opens bounds = grind (arith, nat_tests, opens, bounds)

  -- each port of the type of an instance is settled
  settled : (i : ℕ) (x : MadeInstance) (at : IsAt s.made i x) (k : ℕ) (p : PortAt) → IsAt (ports_at m (fixed_at i x at).kind) k p
      → IsTrue (option_map_or is_settled_port (port_of_made x p.id) false)
  unfolding first_open
  settled i x at k p there =
      let q = decided i x at k p there in
      let none = none_open m 0 s.made (λ k y at_y. ((fixed_at k y at_y).kind, sole_at k y at_y)) no_first_open i x at (fixed_at i x at).kind (sole_at i x at) k p there in
      let closed : not (is_closed q.0) ≡ false = sym (ap (λ o. option_map_or (λ q. not (is_closed q)) o false) q.1) ∙ none in
      option_map_or_from is_settled_port (port_of_made x p.id) q.0 q.1
      (and_from (is_closed q.0) (list_all (has_number q.0.required) q.0.possible) (opposite_true (is_closed q.0) closed)
      (and_parts (list_all (has_number q.0.required) q.0.possible) (nat_le q.0.fresh_high q.0.fresh_low) q.2).0)
    where
      opposite_true : (b : Bool) → not b ≡ false → IsTrue b
      opposite_true true is = refl
      opposite_true false is = absurd (false≢true (sym is))

  whole_at : (i : ℕ) (x : MadeInstance) (at : IsAt s.made i x) → IsTrue (is_whole_of s x x.kinds)
  whole_at i x at =
      let f = fixed_at i x at in
      ap (is_whole_of s x) (sole_at i x at)
      ∙ and_from _ _
      (table_whole has_one_value m has_attribute f.kind (length (first_attributes m)) s.attribute_types x.domains state.attribute_types (λ a has.
      let entry = list_any_at (λ b. b.id == a) (attributes_at m f.kind) has in
      subst (λ a. IsTrue (option_map_or has_one_value (domain_of x a) false)) (eqb-true entry.1.id a entry.3)
      (sym (ap (λ o. option_map_or has_one_value (option_and_then (λ x. domain_of x entry.1.id) o) false) at)
      ∙ list_all_at (λ a. has_one_at s i a.id) (attributes_at m f.kind) f.values entry.0 entry.1 entry.2)))
      (table_whole is_settled_port m has_port f.kind (length (first_ports m)) s.port_types x.ports state.port_types (λ p has.
      let entry = list_any_at (λ q. q.id == p) (ports_at m f.kind) has in
      subst (λ p. IsTrue (option_map_or is_settled_port (port_of_made x p) false)) (eqb-true entry.1.id p entry.3)
      (settled i x at entry.0 entry.1 entry.2)))

  -- fixed instances are a whole state, where none has to be made
  pub fixed_is_whole : IsTrue (is_whole s)
  unfolding is_whole
  fixed_is_whole = list_all_from (λ x. is_whole_of s x x.kinds) s.made whole_at

-- ---- what an instance of one type has

-- what a place of a list reads
in_list : (xs ys : List PortAt) (k : ℕ) (d : PortAt) → xs ≡ ys → k < length xs → IsAt ys k (get_or xs k d)
in_list xs ys k d are within = ap (λ l. slice_get l k) (sym are) ∙ slice_get-get_or xs k d within

module _ (m : Model) (s : State) (i kind : ℕ) (state : IsState m s) (sole : kinds_at s i ≡ kind ∷ []) where
  -- the type is possible
  possible : IsTrue (has_number (kinds_at s i) kind)
  possible = ap (λ ks. has_number ks kind) sole ∙ or_left (kind == kind) false (eq-eqb kind kind refl)

  pub type_known : kind < length m.types
  unfolding is_leaf
  type_known = ltb-true kind (length m.types) (and_parts _ _ (leaf_at m s i kind state possible)).0

  -- what the type passes each possible type passes
  all_pass : (test : ℕ → Bool) → IsTrue (test kind) → IsTrue (all_kinds s i test)
  all_pass test passes =
      let x = made_with s i kind possible in
      all_kinds_at s i x.0 test x.1 ∙ (ap (list_all test) (sym x.2 ∙ sole) ∙ and_from (test kind) true passes refl)

  pub all_have_attribute_at : (k : ℕ) (a : AttrAt) → IsAt (attributes_at m kind) k a → IsTrue (all_have_attribute m s i a.id)
  all_have_attribute_at k a at = all_pass (λ t. has_attribute m t a.id) (list_any_from (λ b. b.id == a.id) (attributes_at m kind) k a at (eq-eqb a.id a.id refl))

  pub all_have_port_at : (k : ℕ) (p : PortAt) → IsAt (ports_at m kind) k p → IsTrue (all_have_port m s i p.id)
  all_have_port_at k p at = all_pass (λ t. has_port m t p.id) (list_any_from (λ q. q.id == p.id) (ports_at m kind) k p at (eq-eqb p.id p.id refl))

  pub attribute_there : (k : ℕ) (a : AttrAt) → IsAt (attributes_at m kind) k a → IsSome (domain_at s i a.id)
  attribute_there k a at = ap is_some (domain_there m s i a.id state (all_have_attribute_at k a at)).1

  pub port_there : (k : ℕ) (p : PortAt) → IsAt (ports_at m kind) k p → IsSome (port_at s i p.id)
  port_there k p at =
      let x = made_with s i kind possible in
      let has = list_any_from (λ t. has_port m t p.id) x.0.kinds 0 kind (ap (λ ks. slice_get ks 0) (sym x.2 ∙ sole))
      (list_any_from (λ q. q.id == p.id) (ports_at m kind) k p at (eq-eqb p.id p.id refl)) in
      ap (λ o. is_some (option_and_then (λ x. port_of_made x p.id) o)) x.1 ∙ (state.each i x.0 x.1).has_ports p.id has

  -- what splits its values or its links is a branch
  pub values_split : (k : ℕ) (a : AttrAt) (b : Branch) → IsAt (attributes_at m kind) k a → SplitsValues s i a.id b → IsBranch m s b
  values_split k a b at split =
      subst (IsBranch m s) (sym split.splits) (values_branch m s i a.id split.domain split.value state (all_have_attribute_at k a at) split.there split.low split.high)

  pub port_split : (k : ℕ) (p : PortAt) (b : Branch) → IsAt (ports_at m kind) k p → SplitsPort s i p.id b → IsBranch m s b
  port_split k p b at (inl split) =
      subst (IsBranch m s) (sym split.splits) (links_branch m s i p.id split.to split.port state (all_have_port_at k p at) split.there split.possible split.not_required)
  port_split k p b at (inr split) =
      subst (IsBranch m s) (sym split.splits) (later_branch m s i p.id split.count split.port state (all_have_port_at k p at) split.there split.low split.high)

  -- the port at a place of the list that is gone over
  pub port_there_in : (ps : List PortAt) (k : ℕ) (d : PortAt) → ps ≡ ports_at m kind → k < length ps → IsSome (port_at s i (get_or ps k d).id)
  port_there_in ps k d are within = port_there k (get_or ps k d) (in_list ps (ports_at m kind) k d are within)

  pub port_split_in : (ps : List PortAt) (k : ℕ) (d : PortAt) (b : Branch) → ps ≡ ports_at m kind → k < length ps → SplitsPort s i (get_or ps k d).id b → IsBranch m s b
  port_split_in ps k d b are within split = port_split k (get_or ps k d) b (in_list ps (ports_at m kind) k d are within) split
