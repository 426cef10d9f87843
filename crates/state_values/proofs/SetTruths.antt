-- What truths are in sets of instances.
use Rattle.std.proofs.Common.{◌≡◌, ℕ, ◌<◌, ◌∙◌, ap, ap₂, sym, subst, Bool, true, false, ◌&&◌, ◌||◌, ◌==◌, not, List, map, Option, Some, None, inl, inr, refl, zero-add}
use Rattle.std.specs.Prelude.{IsTrue, IsSome, slice_get, if◌then◌else◌}
use Rattle.std.specs.Option.{option_map_or}
use Rattle.std.specs.List.{list_all, list_any}
use Rattle.std.proofs.Math.Path.{fun_ext}
use Rattle.std.proofs.Math.Bool.{or-false}
use Rattle.std.proofs.lemmas.Simd.{map-map}
use Rattle.std.proofs.lemmas.Bool.{and_parts, and_from, or_cases, or_left, or_right, false≢true, false_from_ne_true}
use Rattle.base_laws.proofs.Ranges.{slice_get_range_with_len}
use Rattle.base_laws.proofs.Tests.{list_all_at, list_all_from, list_any_at, list_any_from}
use Rattle.instance_set.specs.declared.set.InstanceSet.{InstanceSet}
use Rattle.instance_set.specs.InstanceSets.{is_member}
use Rattle.prod_model.specs.declared.model.Model.{Model}
use Rattle.prod_model.specs.declared.model.PortAt.{PortAt}
use Rattle.prod_model.specs.declared.expr.Expr.{Expr}
use Rattle.prod_model.specs.declared.expr.Expr.TheOpen.{Expr-F, And, Or, Not, If, All, Any}
use Rattle.prod_model.specs.declared.expr.Expr.TheViews.{out-Expr}
use Rattle.prod_model.specs.declared.expr_bounds.Bounds.{Bounds}
use Rattle.prod_model.specs.ExprBounds.{bounds_at}
use Rattle.prod_model.specs.Taxonomy.{port_of}
use Rattle.config_value.specs.declared.literal.Literal.{Literal}
use Rattle.state_space.specs.Ports.{PortState}
use Rattle.state_space.specs.Sets.{has_number}
use Rattle.state_space.specs.State.{State, IsState, number_made, port_at}
use Rattle.state_space.proofs.PortLaws.{all_has}
use Rattle.state_values.specs.declared.truth_sets.Truths.{Truths}
use Rattle.state_values.specs.Kleene.{Kleene, True, False, Open, is_true, is_false, negated, both, either, implied, all_of, any_of}
use Rattle.state_values.specs.Seen.{Seen, Part, as_kleene, at_linked, seen_at, truth, within_bounds}
use Rattle.state_values.specs.Seen as seen
use Rattle.state_values.specs.Sights.{made_numbers, no_port, port_state, is_surely_under, linked, is_closed}
use Rattle.state_values.specs.steps.Forms.{part_at, form_seen}
use Rattle.state_values.specs.steps.Truths.{Tells, StandAmong, HavePort, links_only, links_some}
use Rattle.state_values.proofs.FormSeen.{seen_form}
use Rattle.state_values.proofs.KleeneTests.{is_true_negated, is_false_negated, is_true_both, is_false_both, is_true_either, is_false_either, is_true_implied, is_false_implied, true_of_all, false_of_all, true_of_any, false_of_any}
use Rattle.state_values.proofs.LeafLaws.{declared_there}
use Rattle.state_values.proofs.LinkableLaws.{bool_same, all_of_numbers, some_of_numbers, number_passes, port_formed, possible_made}

-- ---- truths that are the same

pub tells_same : (among : InstanceSet) (f g : ℕ → Kleene) (x : Truths) → ((i : ℕ) → f i ≡ g i) → Tells among f x → Tells among g x
tells_same among f g x same tells = subst (λ (h : ℕ → Kleene). Tells among h x) (fun_ext same) tells

within_truth : (b : Option Bounds) (x : Seen) → as_kleene (within_bounds b x) ≡ as_kleene x
within_truth b (seen.Between r) = refl
within_truth b (seen.Truth o) = refl

module _ (m : Model) (s : State) (t : ℕ) where
  -- a truth is what its form is
  pub truth_form : (i : ℕ) (e : Expr) → truth m s t i e ≡ as_kleene (form_seen m s t i (out-Expr e))
  truth_form i e = ap as_kleene (seen_form m s t i e) ∙ within_truth (bounds_at m e t) (form_seen m s t i (out-Expr e))

  module _ (among : InstanceSet) (e : Expr) (x : Truths) where
    abbrev pub TellsTruth : Type 0
    TellsTruth = Tells among (λ i. truth m s t i e) x

    pub form_told : (form : Expr-F Expr) → out-Expr e ≡ form → Tells among (λ i. as_kleene (form_seen m s t i form)) x → TellsTruth
    form_told form is tells = tells_same among (λ i. as_kleene (form_seen m s t i form)) (λ i. truth m s t i e) x (λ i. sym (truth_form i e ∙ ap (λ f. as_kleene (form_seen m s t i f)) is)) tells

    pub and_told : (es : List Expr) → out-Expr e ≡ And es → Tells among (λ i. all_of (map (truth m s t i) es)) x → TellsTruth
    and_told es is tells =
        form_told (And es) is (tells_same among (λ i. all_of (map (truth m s t i) es)) (λ i. as_kleene (form_seen m s t i (And es))) x
        (λ i. ap all_of (sym (map-map (λ (e : Part). as_kleene (e.seen t i)) (part_at m s) es))) tells)

    pub or_told : (es : List Expr) → out-Expr e ≡ Or es → Tells among (λ i. any_of (map (truth m s t i) es)) x → TellsTruth
    or_told es is tells =
        form_told (Or es) is (tells_same among (λ i. any_of (map (truth m s t i) es)) (λ i. as_kleene (form_seen m s t i (Or es))) x
        (λ i. ap any_of (sym (map-map (λ (e : Part). as_kleene (e.seen t i)) (part_at m s) es))) tells)

    pub not_told : (a : Expr) (y : Truths) → out-Expr e ≡ Not a → Tells among (λ i. truth m s t i a) y → x ≡ record { holding = y.failing; failing = y.holding } → TellsTruth
    not_told a y is tells turned = form_told (Not a) is (record {
      holding = λ i. ap (λ (z : Truths). is_member z.holding i) turned ∙ tells.failing i ∙ ap (λ b. is_member among i && b) (sym (is_true_negated (truth m s t i a)));
      failing = λ i. ap (λ (z : Truths). is_member z.failing i) turned ∙ tells.holding i ∙ ap (λ b. is_member among i && b) (sym (is_false_negated (truth m s t i a)));
    })

    or_both : (a y z : Bool) → ((a && y) || (a && z)) ≡ (a && (y || z))
    or_both true y z = refl
    or_both false y z = refl

    and_both : (a y z : Bool) → ((a && y) && (a && z)) ≡ (a && (y && z))
    and_both true y z = refl
    and_both false y z = refl

    pub if_told : (a b : Expr) (y z n : Truths) → out-Expr e ≡ If a b → Tells among (λ i. truth m s t i a) y → Tells among (λ i. truth m s t i b) z
        → n ≡ record { holding = y.failing; failing = y.holding }
        → ((i : ℕ) → is_member x.holding i ≡ (is_member n.holding i || is_member z.holding i))
        → ((i : ℕ) → is_member x.failing i ≡ (is_member n.failing i && is_member z.failing i)) → TellsTruth
    if_told a b y z n is first second turned holding failing = form_told (If a b) is (record {
      holding = λ i. holding i
          ∙ ap₂ (λ c d. c || d) (ap (λ (z : Truths). is_member z.holding i) turned ∙ first.failing i) (second.holding i)
          ∙ or_both (is_member among i) (is_false (truth m s t i a)) (is_true (truth m s t i b))
          ∙ ap (λ b. is_member among i && b) (sym (is_true_implied (truth m s t i a) (truth m s t i b)));
      failing = λ i. failing i
          ∙ ap₂ (λ c d. c && d) (ap (λ (z : Truths). is_member z.failing i) turned ∙ first.holding i) (second.failing i)
          ∙ and_both (is_member among i) (is_true (truth m s t i a)) (is_false (truth m s t i b))
          ∙ ap (λ b. is_member among i && b) (sym (is_false_implied (truth m s t i a) (truth m s t i b)));
    })

-- ---- links

link_false : (a b : Bool) (by other : List Literal) → is_false (if a then True by else (if b then Open else False other)) ≡ (not a && not b)
link_false true b by other = refl
link_false false true by other = refl
link_false false false by other = refl

link_true : (a b : Bool) (by other : List Literal) → is_true (if a then True by else (if b then Open else False other)) ≡ a
link_true true b by other = refl
link_true false true by other = refl
link_true false false by other = refl

closed_true : (a : Bool) (by : List Literal) → is_true (if a then True by else Open) ≡ a
closed_true true by = refl
closed_true false by = refl

closed_false : (a : Bool) (by : List Literal) → is_false (if a then True by else Open) ≡ false
closed_false true by = refl
closed_false false by = refl

module _ (m : Model) (s : State) (state : IsState m s) (p target : ℕ) (a : Expr) (inside : InstanceSet) (stand : StandAmong m s target inside)
    (i : ℕ) (some : IsSome (port_at s i p))
    (all : (j : ℕ) → IsTrue (has_number (port_state s i p).possible j) → IsTrue (is_surely_under m s target j) → IsTrue (is_member inside j)) where
  abbrev d : PortState
  d = port_state s i p

  low_possible : (j : ℕ) → IsTrue (has_number d.possible j) → j < number_made s
  low_possible j there = by (port_at s i p) refl some there
    where
      by : (o : Option PortState) → port_at s i p ≡ o → IsSome o → IsTrue (has_number (option_map_or (λ q. q) o no_port).possible j) → j < number_made s
      by None is some there = absurd (false≢true some)
      by (Some q) is some there = possible_made m s state i p q is j there

  is_possible : (j : ℕ) → IsTrue (has_number d.required j) → IsTrue (has_number d.possible j)
  is_possible j there = by (port_at s i p) refl some there
    where
      by : (o : Option PortState) → port_at s i p ≡ o → IsSome o → IsTrue (has_number (option_map_or (λ q. q) o no_port).required j) → IsTrue (has_number (option_map_or (λ q. q) o no_port).possible j)
      by None is some there = absurd (false≢true some)
      by (Some q) is some there = all_has (has_number q.possible) q.required j (and_parts _ _ (and_parts _ _ (port_formed m s state i p q is).formed).0).1 there

  abbrev pub at_j : ℕ → Kleene
  at_j j = at_linked m s (part_at m s a) target j

  at_made : (j : ℕ) → j < number_made s → slice_get (made_numbers s) j ≡ Some j
  at_made j low = slice_get_range_with_len 0 (number_made s) j low ∙ ap Some (zero-add j)

  module _ (val : Kleene → Bool) (open_not : val Open ≡ false) (set : InstanceSet) (set_is : (j : ℕ) → is_member set j ≡ (is_member inside j && val (truth m s target j a))) where
    at_cases : (b : Bool) (k : Kleene) → IsTrue (val (if b then k else Open)) → IsTrue b × IsTrue (val k)
    at_cases true k is = (refl, is)
    at_cases false k is = absurd (false≢true (sym open_not ∙ is))

    at_surely : (b : Bool) (k : Kleene) → IsTrue b → IsTrue (val k) → IsTrue (val (if b then k else Open))
    at_surely true k surely is = is
    at_surely false k surely is = absurd (false≢true surely)

    -- a linkable instance whose truth is so is one of the set
    in_set : (j : ℕ) → IsTrue (has_number d.possible j) → IsTrue (val (at_j j)) → IsTrue (is_member set j)
    in_set j possible is =
        let both = at_cases (is_surely_under m s target j) (truth m s target j a) is in
        set_is j ∙ and_from (is_member inside j) (val (truth m s target j a)) (all j possible both.0) both.1

    -- and one of the set is so
    of_set : (j : ℕ) → IsTrue (is_member set j) → IsTrue (val (at_j j)) × (j < number_made s)
    of_set j there =
        let both = and_parts (is_member inside j) (val (truth m s target j a)) (sym (set_is j) ∙ there) in
        let stands = stand j both.0 in
        (at_surely (is_surely_under m s target j) (truth m s target j a) stands.under both.1, stands.made)

    pub only_same : list_all (λ j. is_false (linked s i p j) || val (at_j j)) (made_numbers s) ≡ list_all (is_member set) d.possible
    only_same = bool_same (list_all (λ j. is_false (linked s i p j) || val (at_j j)) (made_numbers s)) (list_all (is_member set) d.possible)
        (λ each. all_of_numbers (is_member set) d.possible (λ j there.
        elim (or_cases (is_false (linked s i p j)) (val (at_j j)) (list_all_at (λ j. is_false (linked s i p j) || val (at_j j)) (made_numbers s) each j j (at_made j (low_possible j there)))) [
          | inl never ↦ absurd (false≢true (ap not (sym there) ∙ (and_parts (not (has_number d.required j)) (not (has_number d.possible j)) (sym (link_false (has_number d.required j) (has_number d.possible j) _ _) ∙ never)).1))
          | inr is ↦ in_set j there is
        ]))
        (λ each. list_all_from (λ j. is_false (linked s i p j) || val (at_j j)) (made_numbers s) (λ k j at. by j (has_number d.possible j) refl each))
      where
        by : (j : ℕ) (b : Bool) → has_number d.possible j ≡ b → IsTrue (list_all (is_member set) d.possible) → IsTrue (is_false (linked s i p j) || val (at_j j))
        by j true there each = or_right (is_false (linked s i p j)) (val (at_j j)) (of_set j (all_has (is_member set) d.possible j each there)).0
        by j false never each =
            let none = false_from_ne_true (has_number d.required j) (λ required. false≢true (sym never ∙ is_possible j required)) in
            or_left (is_false (linked s i p j)) (val (at_j j)) (link_false (has_number d.required j) (has_number d.possible j) _ _ ∙ ap₂ (λ x y. not x && not y) none never)

    pub some_same : list_any (λ j. is_true (linked s i p j) && val (at_j j)) (made_numbers s) ≡ list_any (is_member set) d.required
    some_same = bool_same (list_any (λ j. is_true (linked s i p j) && val (at_j j)) (made_numbers s)) (list_any (is_member set) d.required)
        (λ any.
        let found = list_any_at (λ j. is_true (linked s i p j) && val (at_j j)) (made_numbers s) any in
        let j = found.1 in
        let parts = and_parts (is_true (linked s i p j)) (val (at_j j)) found.3 in
        let required = sym (link_true (has_number d.required j) (has_number d.possible j) _ _) ∙ parts.0 in
        number_passes (is_member set) d.required j required (in_set j (is_possible j required) parts.1))
        (λ any.
        let found = some_of_numbers (is_member set) d.required any in
        let j = found.0 in
        let told = of_set j found.2 in
        list_any_from (λ j. is_true (linked s i p j) && val (at_j j)) (made_numbers s) j j (at_made j told.1)
        (and_from (is_true (linked s i p j)) (val (at_j j)) (link_true (has_number d.required j) (has_number d.possible j) _ _ ∙ found.1) told.0))

  module _ (found : Truths) (tells : Tells inside (λ j. truth m s target j a) found) where
    abbrev every : Kleene
    every = both (all_of (map (λ j. implied (linked s i p j) (at_j j)) (made_numbers s))) (is_closed s i p)

    abbrev someone : Kleene
    someone = either (any_of (map (λ j. both (linked s i p j) (at_j j)) (made_numbers s))) (negated (is_closed s i p))

    pub every_true : is_true every ≡ links_only s p i found.holding
    every_true =
        is_true_both (all_of (map (λ j. implied (linked s i p j) (at_j j)) (made_numbers s))) (is_closed s i p)
        ∙ ap₂ (λ x y. x && y)
        (true_of_all (λ j. implied (linked s i p j) (at_j j)) (made_numbers s)
        ∙ ap (λ (f : ℕ → Bool). list_all f (made_numbers s)) (fun_ext (λ j. is_true_implied (linked s i p j) (at_j j)))
        ∙ only_same is_true refl found.holding tells.holding)
        (closed_true (d.fresh_high == 0) _)

    pub every_false : is_false every ≡ links_some s p i found.failing
    every_false =
        is_false_both (all_of (map (λ j. implied (linked s i p j) (at_j j)) (made_numbers s))) (is_closed s i p)
        ∙ ap₂ (λ x y. x || y)
        (false_of_all (λ j. implied (linked s i p j) (at_j j)) (made_numbers s)
        ∙ ap (λ (f : ℕ → Bool). list_any f (made_numbers s)) (fun_ext (λ j. is_false_implied (linked s i p j) (at_j j)))
        ∙ some_same is_false refl found.failing tells.failing)
        (closed_false (d.fresh_high == 0) _)
        ∙ or-false _

    pub someone_true : is_true someone ≡ links_some s p i found.holding
    someone_true =
        is_true_either (any_of (map (λ j. both (linked s i p j) (at_j j)) (made_numbers s))) (negated (is_closed s i p))
        ∙ ap₂ (λ x y. x || y)
        (true_of_any (λ j. both (linked s i p j) (at_j j)) (made_numbers s)
        ∙ ap (λ (f : ℕ → Bool). list_any f (made_numbers s)) (fun_ext (λ j. is_true_both (linked s i p j) (at_j j)))
        ∙ some_same is_true refl found.holding tells.holding)
        (is_true_negated (is_closed s i p) ∙ closed_false (d.fresh_high == 0) _)
        ∙ or-false _

    pub someone_false : is_false someone ≡ links_only s p i found.failing
    someone_false =
        is_false_either (any_of (map (λ j. both (linked s i p j) (at_j j)) (made_numbers s))) (negated (is_closed s i p))
        ∙ ap₂ (λ x y. x && y)
        (false_of_any (λ j. both (linked s i p j) (at_j j)) (made_numbers s)
        ∙ ap (λ (f : ℕ → Bool). list_all f (made_numbers s)) (fun_ext (λ j. is_false_both (linked s i p j) (at_j j)))
        ∙ only_same is_false refl found.failing tells.failing)
        (is_false_negated (is_closed s i p) ∙ closed_true (d.fresh_high == 0) _)

-- ---- truths about linked instances, in sets

and_same : (b x y : Bool) → (IsTrue b → x ≡ y) → (b && x) ≡ (b && y)
and_same true x y same = same refl
and_same false x y same = refl

module _ (m : Model) (s : State) (state : IsState m s) (t p : ℕ) (q : PortAt) (port : port_of m t p ≡ Some q) (a e : Expr) (inside : InstanceSet) (stand : StandAmong m s q.target inside)
    (among : InstanceSet) (have : HavePort s among p)
    (all : (i j : ℕ) → IsTrue (is_member among i) → IsTrue (has_number (port_state s i p).possible j) → IsTrue (is_surely_under m s q.target j) → IsTrue (is_member inside j))
    (found : Truths) (tells : Tells inside (λ j. truth m s q.target j a) found) (x : Truths) where
  abbrev EachLinked : ℕ → ℕ → Type 0
  EachLinked i u = as_kleene (form_seen m s t i (All p a)) ≡ both (all_of (map (λ j. implied (linked s i p j) (at_linked m s (part_at m s a) u j)) (made_numbers s))) (is_closed s i p)

  abbrev SomeLinked : ℕ → ℕ → Type 0
  SomeLinked i u = as_kleene (form_seen m s t i (Any p a)) ≡ either (any_of (map (λ j. both (linked s i p j) (at_linked m s (part_at m s a) u j)) (made_numbers s))) (negated (is_closed s i p))

  all_form : (i : ℕ) → EachLinked i q.target
  all_form i = let d = declared_there m t p q port in subst (EachLinked i) (sym d.2) (rw d.1 refl)

  any_form : (i : ℕ) → SomeLinked i q.target
  any_form i = let d = declared_there m t p q port in subst (SomeLinked i) (sym d.2) (rw d.1 refl)

  pub all_told : out-Expr e ≡ All p a
      → ((i : ℕ) → is_member x.holding i ≡ (is_member among i && links_only s p i found.holding))
      → ((i : ℕ) → is_member x.failing i ≡ (is_member among i && links_some s p i found.failing)) → Tells among (λ i. truth m s t i e) x
  all_told is holding failing = form_told m s t among e x (All p a) is (record {
    holding = λ i. holding i ∙ and_same (is_member among i) (links_only s p i found.holding) (is_true (as_kleene (form_seen m s t i (All p a))))
        (λ here. sym (ap is_true (all_form i) ∙ every_true m s state p q.target a inside stand i (have i here) (λ j. all i j here) found tells));
    failing = λ i. failing i ∙ and_same (is_member among i) (links_some s p i found.failing) (is_false (as_kleene (form_seen m s t i (All p a))))
        (λ here. sym (ap is_false (all_form i) ∙ every_false m s state p q.target a inside stand i (have i here) (λ j. all i j here) found tells));
  })

  pub any_told : out-Expr e ≡ Any p a → (n y : Truths) → n ≡ record { holding = found.failing; failing = found.holding }
      → ((i : ℕ) → is_member y.holding i ≡ (is_member among i && links_only s p i n.holding))
      → ((i : ℕ) → is_member y.failing i ≡ (is_member among i && links_some s p i n.failing))
      → x ≡ record { holding = y.failing; failing = y.holding } → Tells among (λ i. truth m s t i e) x
  any_told is n y turned holding failing back = form_told m s t among e x (Any p a) is (record {
    holding = λ i. ap (λ (z : Truths). is_member z.holding i) back ∙ failing i
        ∙ ap (λ (z : Truths). is_member among i && links_some s p i z.failing) turned
        ∙ and_same (is_member among i) (links_some s p i found.holding) (is_true (as_kleene (form_seen m s t i (Any p a))))
        (λ here. sym (ap is_true (any_form i) ∙ someone_true m s state p q.target a inside stand i (have i here) (λ j. all i j here) found tells));
    failing = λ i. ap (λ (z : Truths). is_member z.failing i) back ∙ holding i
        ∙ ap (λ (z : Truths). is_member among i && links_only s p i z.holding) turned
        ∙ and_same (is_member among i) (links_only s p i found.failing) (is_false (as_kleene (form_seen m s t i (Any p a))))
        (λ here. sym (ap is_false (any_form i) ∙ someone_false m s state p q.target a inside stand i (have i here) (λ j. all i j here) found tells));
  })

-- ---- lists of arguments

module _ (among : InstanceSet) (f : ℕ → Expr → Kleene) (es : List Expr) (x : Truths) where
  pub tells_all : ((i : ℕ) → is_member x.holding i ≡ (is_member among i && list_all (λ e. is_true (f i e)) es))
      → ((i : ℕ) → is_member x.failing i ≡ (is_member among i && list_any (λ e. is_false (f i e)) es)) → Tells among (λ i. all_of (map (f i) es)) x
  tells_all holding failing = record {
    holding = λ i. holding i ∙ ap (λ b. is_member among i && b) (sym (true_of_all (f i) es));
    failing = λ i. failing i ∙ ap (λ b. is_member among i && b) (sym (false_of_all (f i) es));
  }

  pub tells_any : ((i : ℕ) → is_member x.holding i ≡ (is_member among i && list_any (λ e. is_true (f i e)) es))
      → ((i : ℕ) → is_member x.failing i ≡ (is_member among i && list_all (λ e. is_false (f i e)) es)) → Tells among (λ i. any_of (map (f i) es)) x
  tells_any holding failing = record {
    holding = λ i. holding i ∙ ap (λ b. is_member among i && b) (sym (true_of_any (f i) es));
    failing = λ i. failing i ∙ ap (λ b. is_member among i && b) (sym (false_of_any (f i) es));
  }
