-- What an expression reads in a state the state entails, by one induction over expressions.
use Rattle.std.proofs.Common.{◌≡◌, ℕ, ◌<◌, ℤ, pos, Bool, true, false, cond, List, [], ◌∷◌, map, Option, Some, None, refl, sym, ap, ◌∙◌, subst, arith}
use Rattle.std.specs.Prelude.{IsTrue, is_some}
use Rattle.std.specs.Option.{option_map_or, option_and_then, option_map}
use Rattle.std.proofs.lemmas.Bool.{false≢true}
use Rattle.std.proofs.lemmas.Option.{none-some}
use Rattle.std.proofs.lemmas.Simd.{map-map}
use Rattle.base_laws.specs.Places.{IsAt}
use Rattle.base_laws.proofs.Places.{map_at}
use Rattle.base_laws.proofs.Ranges.{range_with_len_lt}
use Rattle.base_laws.proofs.Tests.{option_map_or_at}
use Rattle.prod_model.specs.declared.model.Model.{Model}
use Rattle.prod_model.specs.declared.model.PortAt.{PortAt}
use Rattle.prod_model.specs.declared.expr_bounds.Bounds.{Bounds}
use Rattle.prod_model.specs.declared.expr_bounds.Bounds.TheVariants as bounds
use Rattle.prod_model.specs.declared.expr.Expr.{Expr, map-Expr}
use Rattle.prod_model.specs.declared.expr.Expr.TheOpen.{Expr-F, Num, Attr, Count, CountOf, Sum, Total, Number, Add, Sub, Times, Cmp, Is, Kind, And, Or, Not, If, All, Any}
use Rattle.prod_model.specs.declared.expr.Expr.TheViews.{roll-Expr}
use Rattle.prod_model.specs.declared.expr.Expr.TheFolds.{ind-Expr}
use Rattle.prod_model.specs.declared.expr.Relation.{Relation}
use Rattle.prod_model.specs.Forest.{is_a, is_type}
use Rattle.prod_model.specs.Taxonomy.{attribute_of, declared_port_of}
use Rattle.prod_model.specs.ExprBounds.{bounds_at, bounded, sum_of_some, truth_of, of_range, has_arguments, is_word_of}
use Rattle.prod_model.specs.steps.ExprBounds.{sum_onto}
use Rattle.prod_model.specs.Valid.{IsValid}
use Rattle.prod_model.proofs.ExprBoundsLaws.{bounds_at_Attr, bounds_at_Count, bounds_at_CountOf, bounds_at_Sum, bounds_at_Total, bounds_at_Is, bounds_at_Add_onto, bounds_at_Sub, bounds_at_Times, bounds_at_Cmp, bounds_at_And, bounds_at_Or, bounds_at_Not, bounds_at_If, bounds_at_All, bounds_at_Any}
use Rattle.config_value.proofs.ToldLaws.{and_then_some, map_some, if_some}
use Rattle.state_space.specs.State.{State, IsState, number_made}
use Rattle.state_values.specs.Kleene.{Kleene, Open, negated, both, either, implied, all_of, any_of}
use Rattle.state_values.specs.Ranges.{Range, exactly, ranges_sum}
use Rattle.state_values.specs.Tallies.{tally}
use Rattle.state_values.specs.Sights.{made_numbers, is_surely_under, under_type, linked, is_closed, value_range, least_at, greatest_at, or_zero, one, one_if, one_under, value_under, linked_under, fresh_rest, unmade_rest, share_leaf}
use Rattle.state_values.specs.Seen.{Seen, Between, Truth, as_range, as_kleene, Part, layer_seen, within_bounds, seen_at, at_linked}
use Rattle.state_values.specs.WholeDomains.{AreDomainsWhole}
use Rattle.state_values.specs.ReadsLaws.{ReadsAreEntailed}
use Rattle.state_values.proofs.ToldParts.{IsTold, difference_parts, multiple_part, comparison_parts, sum_parts, truth_parts}
use Rattle.state_values.proofs.SeenLaws.{seen_at_roll, as_part}
use Rattle.state_values.proofs.HeldForms.{ranged}
use Rattle.state_values.proofs.ReadsKleene.{TruthEntailed, RangeEntailed, negated_entailed, both_entailed, either_entailed, implied_entailed, all_of_entailed, any_of_entailed, exactly_entailed, sums_entailed, difference_entailed, multiple_entailed, clamped_entailed, compared_entailed}
use Rattle.state_values.proofs.ReadsSights.{port_there, linked_entailed, closed_entailed, under_type_entailed, domain_there, value_entailed, word_entailed}
use Rattle.state_values.proofs.ReadsTallies.{tally_entailed, one_entailed, one_under_entailed, value_under_entailed, maybe_under, linked_under_entailed, maybe_linked, fresh_entailed, unmade_entailed}

-- what a test lets through passed it
passed : {B : Type 0} (t : Bool) (o : Option B) (b : B) → cond t o None ≡ Some b → IsTrue t
passed true o b told = refl
passed false o b told = absurd (none-some b told)

module _ (m : Model) (s : State) (valid : IsValid m) (state : IsState m s) (whole : AreDomainsWhole m s) where
  -- what shows the ends and the truth is entailed
  abbrev SeenEntailed : Seen → Type 0
  SeenEntailed seen = RangeEntailed m s (as_range seen) × TruthEntailed m s (as_kleene seen)

  -- wherever the expression stands without fault, what it reads is entailed
  abbrev IsRead : Expr → Type 0
  IsRead e = (i t : ℕ) → i < number_made s → IsTrue (is_surely_under m s t i) → IsTold (bounds_at m e t)
      → SeenEntailed (seen_at m s t i e)

  number_read : (f : Expr-F Expr) (i t : ℕ) (r : Range)
      → layer_seen m s (map-Expr Expr Part (as_part m s) f) t i ≡ Between r → RangeEntailed m s r
      → SeenEntailed (seen_at m s t i (roll-Expr f))
  number_read f i t r layer is =
      subst SeenEntailed (sym (seen_at_roll m s t i f ∙ ap (within_bounds (bounds_at m (roll-Expr f) t)) layer))
      (clamped_entailed m s (bounds_at m (roll-Expr f) t) r is, refl)

  truth_read : (f : Expr-F Expr) (i t : ℕ) (o : Kleene)
      → layer_seen m s (map-Expr Expr Part (as_part m s) f) t i ≡ Truth o → TruthEntailed m s o
      → SeenEntailed (seen_at m s t i (roll-Expr f))
  truth_read f i t o layer is =
      subst SeenEntailed (sym (seen_at_roll m s t i f ∙ ap (within_bounds (bounds_at m (roll-Expr f) t)) layer))
      (exactly_entailed m s (pos 0), is)

  -- ---- forms of numbers

  read_num : (n : ℤ) → IsRead (roll-Expr (Num n))
  read_num n i t made under told = number_read (Num n) i t (exactly n) refl (exactly_entailed m s n)

  read_attr : (a : ℕ) → IsRead (roll-Expr (Attr a))
  read_attr a i t made under told =
      let attribute = and_then_some (of_range bounded) (attribute_of m t a) told.0 (sym (bounds_at_Attr m t a) ∙ told.1) in
      number_read (Attr a) i t (value_range s a i) refl
      (value_entailed m s valid state i a (domain_there m s valid state i t a attribute.0 made under attribute.1))

  read_count : (p : ℕ) → IsRead (roll-Expr (Count p))
  read_count p i t made under told =
      let port = map_some (λ q. bounds.Number (pos q.low) (pos q.high)) (declared_port_of m t p) told.0 (sym (bounds_at_Count m t p) ∙ told.1) in
      let y = port_there m s valid state i t p port.0 made under port.1 in
      number_read (Count p) i t _ refl
      (tally_entailed m s (λ j. one (linked s i p j)) (fresh_rest s i p (pos 1) (pos 1))
      (λ j below. one_entailed m s valid state whole (linked s i p j) (linked_entailed m s valid state i p j y below))
      (fresh_entailed m s valid state whole i p (pos 1) (pos 1) y))

  read_number : (u : ℕ) → IsRead (roll-Expr (Number u))
  read_number u i t made under told =
      number_read (Number u) i t _ refl
      (tally_entailed m s (λ j. one (under_type m s u j)) (unmade_rest m s (pos 1) (pos 1))
      (λ j below. one_entailed m s valid state whole (under_type m s u j) (under_type_entailed m s valid state u j below))
      (unmade_entailed m s valid state whole (pos 1) (pos 1)))

  read_count_of : (p u : ℕ) → IsRead (roll-Expr (CountOf p u))
  read_count_of p u i t made under told =
      let counted = if_some (is_type m u) (option_map (λ q. bounds.Number (pos 0) (pos q.high)) (declared_port_of m t p)) told.0 (sym (bounds_at_CountOf m t p u) ∙ told.1) in
      let port = map_some (λ q. bounds.Number (pos 0) (pos q.high)) (declared_port_of m t p) told.0 counted in
      let q = port.0 in
      let y = port_there m s valid state i t p q made under port.1 in
      number_read (CountOf p u) i t
      (tally (map (λ j. one_under m s u (linked s i p j) j) (made_numbers s))
      (fresh_rest s i p (one_if (is_a m q.target u)) (one_if (share_leaf m u q.target))))
      (ap (λ o. Between (option_map_or (λ (q : PortAt). tally (map (λ j. one_under m s u (linked s i p j) j) (made_numbers s))
      (fresh_rest s i p (one_if (is_a m q.target u)) (one_if (share_leaf m u q.target)))) o (exactly (pos 0)))) port.1)
      (tally_entailed m s (λ j. one_under m s u (linked s i p j) j) (fresh_rest s i p (one_if (is_a m q.target u)) (one_if (share_leaf m u q.target)))
      (λ j below. one_under_entailed m s valid state whole u j (linked s i p j) below (linked_entailed m s valid state i p j y below))
      (fresh_entailed m s valid state whole i p (one_if (is_a m q.target u)) (one_if (share_leaf m u q.target)) y))

  read_sum : (p a : ℕ) → IsRead (roll-Expr (Sum p a))
  read_sum p a i t made under told =
      let port = and_then_some (λ q. option_and_then (of_range (sum_of_some q.low q.high)) (attribute_of m q.target a)) (declared_port_of m t p) told.0 (sym (bounds_at_Sum m t p a) ∙ told.1) in
      let q = port.0 in
      let attribute = and_then_some (of_range (sum_of_some q.low q.high)) (attribute_of m q.target a) told.0 port.2 in
      let range = ranged (sum_of_some q.low q.high) attribute.0 told.0 attribute.2 in
      let y = port_there m s valid state i t p q made under port.1 in
      let low = or_zero (least_at m q.target a) in
      let high = or_zero (greatest_at m q.target a) in
      number_read (Sum p a) i t
      (tally (map (λ j. value_under m s q.target a (linked_under m s i p q.target j) j) (made_numbers s)) (fresh_rest s i p low high))
      (ap (λ o. Between (option_map_or (λ (q : PortAt). tally (map (λ j. value_under m s q.target a (linked_under m s i p q.target j) j) (made_numbers s))
      (fresh_rest s i p (or_zero (least_at m q.target a)) (or_zero (greatest_at m q.target a)))) o (exactly (pos 0)))) port.1)
      (tally_entailed m s (λ j. value_under m s q.target a (linked_under m s i p q.target j) j) (fresh_rest s i p low high)
      (λ j below. value_under_entailed m s valid state whole q.target a j attribute.0 (linked_under m s i p q.target j) attribute.1 range below
      (linked_under_entailed m s valid state whole i p q.target j y below) (maybe_linked m s valid state whole i p q.target j))
      (fresh_entailed m s valid state whole i p low high y))

  read_total : (u a : ℕ) → IsRead (roll-Expr (Total u a))
  read_total u a i t made under told =
      let attribute = and_then_some (of_range (sum_of_some 0 m.instances)) (attribute_of m u a) told.0 (sym (bounds_at_Total m t u a) ∙ told.1) in
      let range = ranged (sum_of_some 0 m.instances) attribute.0 told.0 attribute.2 in
      let low = or_zero (least_at m u a) in
      let high = or_zero (greatest_at m u a) in
      number_read (Total u a) i t _ refl
      (tally_entailed m s (λ j. value_under m s u a (under_type m s u j) j) (unmade_rest m s low high)
      (λ j below. value_under_entailed m s valid state whole u a j attribute.0 (under_type m s u j) attribute.1 range below
      (under_type_entailed m s valid state u j below) (maybe_under m s valid state whole u j below))
      (unmade_entailed m s valid state whole low high))

  -- an argument that is read rightly
  part_of_list : (es : List ((e : Expr) × IsRead e)) (k : ℕ) (e : Expr) → IsAt (map (λ e. e.0) es) k e → IsRead e
  part_of_list es k e at = let part = map_at (λ (e : (e : Expr) × IsRead e). e.0) es k e at in subst IsRead part.2 part.0.1

  read_add : (es : List ((e : Expr) × IsRead e)) → IsRead (roll-Expr (Add (map (λ e. e.0) es)))
  read_add es i t made under told =
      let args = map (λ (e : (e : Expr) × IsRead e). e.0) es in
      let sums = if_some (has_arguments args) (sum_onto (pos 0) (pos 0) (map (λ e. bounds_at m e t) args)) told.0 (sym (bounds_at_Add_onto m t args) ∙ told.1) in
      number_read (Add args) i t (ranges_sum (map (λ e. as_range (seen_at m s t i e)) args))
      (ap (λ rs. Between (ranges_sum rs)) (map-map (λ (e : Part). as_range (e.seen t i)) (as_part m s) args))
      (sums_entailed m s (λ e. as_range (seen_at m s t i e)) args
      (λ k e at. (part_of_list es k e at i t made under (sum_parts (λ e. bounds_at m e t) (pos 0) (pos 0) args told.0 sums k e at)).0))

  read_sub : (e f : Expr) → IsRead e → IsRead f → IsRead (roll-Expr (Sub e f))
  read_sub e f first second i t made under told =
      let parts = difference_parts (bounds_at m e t) (bounds_at m f t) told.0 (sym (bounds_at_Sub m t e f) ∙ told.1) in
      number_read (Sub e f) i t _ refl
      (difference_entailed m s (as_range (seen_at m s t i e)) (as_range (seen_at m s t i f))
      (first i t made under parts.0).0 (second i t made under parts.1).0)

  read_times : (k : ℤ) (e : Expr) → IsRead e → IsRead (roll-Expr (Times k e))
  read_times k e each i t made under told =
      let part = multiple_part k (bounds_at m e t) told.0 (sym (bounds_at_Times m t k e) ∙ told.1) in
      number_read (Times k e) i t _ refl
      (multiple_entailed m s k (as_range (seen_at m s t i e)) (each i t made under part).0)

  -- ---- forms of truths

  read_cmp : (r : Relation) (e f : Expr) → IsRead e → IsRead f → IsRead (roll-Expr (Cmp r e f))
  read_cmp r e f first second i t made under told =
      let parts = comparison_parts (bounds_at m e t) (bounds_at m f t) told.0 (sym (bounds_at_Cmp m t r e f) ∙ told.1) in
      truth_read (Cmp r e f) i t _ refl
      (compared_entailed m s r (as_range (seen_at m s t i e)) (as_range (seen_at m s t i f))
      (first i t made under parts.0).0 (second i t made under parts.1).0)

  read_is : (a w : ℕ) → IsRead (roll-Expr (Is a w))
  read_is a w i t made under told =
      let test = passed (option_map_or (is_word_of m w) (attribute_of m t a) false) (Some bounds.Truth) told.0 (sym (bounds_at_Is m t a w) ∙ told.1) in
      let attribute = option_map_or_at (is_word_of m w) (attribute_of m t a) test in
      truth_read (Is a w) i t _ refl
      (word_entailed m s valid state i a w (domain_there m s valid state i t a attribute.0 made under attribute.1))

  read_kind : (u : ℕ) → IsRead (roll-Expr (Kind u))
  read_kind u i t made under told = truth_read (Kind u) i t _ refl (under_type_entailed m s valid state u i made)

  read_and : (es : List ((e : Expr) × IsRead e)) → IsRead (roll-Expr (And (map (λ e. e.0) es)))
  read_and es i t made under told =
      let args = map (λ (e : (e : Expr) × IsRead e). e.0) es in
      let truths = if_some (has_arguments args) (truth_of (map (λ e. bounds_at m e t) args)) told.0 (sym (bounds_at_And m t args) ∙ told.1) in
      truth_read (And args) i t (all_of (map (λ e. as_kleene (seen_at m s t i e)) args))
      (ap (λ os. Truth (all_of os)) (map-map (λ (e : Part). as_kleene (e.seen t i)) (as_part m s) args))
      (all_of_entailed m s (λ e. as_kleene (seen_at m s t i e)) args
      (λ k e at. (part_of_list es k e at i t made under (truth_parts (λ e. bounds_at m e t) args told.0 truths k e at)).1))

  read_or : (es : List ((e : Expr) × IsRead e)) → IsRead (roll-Expr (Or (map (λ e. e.0) es)))
  read_or es i t made under told =
      let args = map (λ (e : (e : Expr) × IsRead e). e.0) es in
      let truths = if_some (has_arguments args) (truth_of (map (λ e. bounds_at m e t) args)) told.0 (sym (bounds_at_Or m t args) ∙ told.1) in
      truth_read (Or args) i t (any_of (map (λ e. as_kleene (seen_at m s t i e)) args))
      (ap (λ os. Truth (any_of os)) (map-map (λ (e : Part). as_kleene (e.seen t i)) (as_part m s) args))
      (any_of_entailed m s (λ e. as_kleene (seen_at m s t i e)) args
      (λ k e at. (part_of_list es k e at i t made under (truth_parts (λ e. bounds_at m e t) args told.0 truths k e at)).1))

  read_not : (e : Expr) → IsRead e → IsRead (roll-Expr (Not e))
  read_not e each i t made under told =
      let part = truth_parts (λ e. bounds_at m e t) (e ∷ []) told.0 (sym (bounds_at_Not m t e) ∙ told.1) 0 e refl in
      truth_read (Not e) i t _ refl
      (negated_entailed m s (as_kleene (seen_at m s t i e)) (each i t made under part).1)

  read_if : (e f : Expr) → IsRead e → IsRead f → IsRead (roll-Expr (If e f))
  read_if e f first second i t made under told =
      let parts = truth_parts (λ e. bounds_at m e t) (e ∷ f ∷ []) told.0 (sym (bounds_at_If m t e f) ∙ told.1) in
      truth_read (If e f) i t _ refl
      (implied_entailed m s (as_kleene (seen_at m s t i e)) (as_kleene (seen_at m s t i f))
      (first i t made under (parts 0 e refl)).1 (second i t made under (parts 1 f refl)).1)

  -- what a truth reads at a linked instance
  linked_read : (e : Expr) → IsRead e → (target j : ℕ) → j < number_made s → IsTold (bounds_at m e target)
      → TruthEntailed m s (at_linked m s (as_part m s e) target j)
  linked_read e each target j made told = by (is_surely_under m s target j) refl
    where
      by : (b : Bool) → is_surely_under m s target j ≡ b
          → TruthEntailed m s (cond b (as_kleene (seen_at m s target j e)) Open)
      by true surely = (each j target made surely told).1
      by false surely = refl

  -- the port, and that the truth has bounds at its target
  record IsLinkedForm (t p : ℕ) (e : Expr) : Type 0 where
    q : PortAt
    found : declared_port_of m t p ≡ Some q
    inner : IsTold (bounds_at m e q.target)

  linked_form : (t p : ℕ) (e : Expr) (b : Bounds)
      → option_and_then (λ q. truth_of (bounds_at m e q.target ∷ [])) (declared_port_of m t p) ≡ Some b
      → IsLinkedForm t p e
  linked_form t p e b told =
      let port = and_then_some (λ q. truth_of (bounds_at m e q.target ∷ [])) (declared_port_of m t p) b told in
      record { q = port.0; found = port.1; inner = truth_parts (λ e. bounds_at m e port.0.target) (e ∷ []) b port.2 0 e refl }

  -- each number of a made instance is below the number of them
  below_made : (k j : ℕ) → IsAt (made_numbers s) k j → j < number_made s
  below_made k j at = let below = range_with_len_lt 0 (number_made s) k j at in omega (arith, below)

  read_all : (p : ℕ) (e : Expr) → IsRead e → IsRead (roll-Expr (All p e))
  read_all p e each i t made under told =
      let form = linked_form t p e told.0 (sym (bounds_at_All m t p e) ∙ told.1) in
      let q = form.q in
      let y = port_there m s valid state i t p q made under form.found in
      let each_link : ℕ → Kleene = λ j. implied (linked s i p j) (at_linked m s (as_part m s e) q.target j) in
      truth_read (All p e) i t (both (all_of (map each_link (made_numbers s))) (is_closed s i p))
      (ap (λ r. Truth (option_map_or (λ (q : PortAt). both (all_of (map (λ j. implied (linked s i p j) (at_linked m s (as_part m s e) q.target j)) (made_numbers s))) (is_closed s i p)) r Open)) form.found)
      (both_entailed m s (all_of (map each_link (made_numbers s))) (is_closed s i p)
      (all_of_entailed m s each_link (made_numbers s)
      (λ k j at. implied_entailed m s (linked s i p j) (at_linked m s (as_part m s e) q.target j)
      (linked_entailed m s valid state i p j y (below_made k j at)) (linked_read e each q.target j (below_made k j at) form.inner)))
      (closed_entailed m s valid state i p y))

  read_any : (p : ℕ) (e : Expr) → IsRead e → IsRead (roll-Expr (Any p e))
  read_any p e each i t made under told =
      let form = linked_form t p e told.0 (sym (bounds_at_Any m t p e) ∙ told.1) in
      let q = form.q in
      let y = port_there m s valid state i t p q made under form.found in
      let each_link : ℕ → Kleene = λ j. both (linked s i p j) (at_linked m s (as_part m s e) q.target j) in
      truth_read (Any p e) i t (either (any_of (map each_link (made_numbers s))) (negated (is_closed s i p)))
      (ap (λ r. Truth (option_map_or (λ (q : PortAt). either (any_of (map (λ j. both (linked s i p j) (at_linked m s (as_part m s e) q.target j)) (made_numbers s))) (negated (is_closed s i p))) r Open)) form.found)
      (either_entailed m s (any_of (map each_link (made_numbers s))) (negated (is_closed s i p))
      (any_of_entailed m s each_link (made_numbers s)
      (λ k j at. both_entailed m s (linked s i p j) (at_linked m s (as_part m s e) q.target j)
      (linked_entailed m s valid state i p j y (below_made k j at)) (linked_read e each q.target j (below_made k j at) form.inner)))
      (negated_entailed m s (is_closed s i p) (closed_entailed m s valid state i p y)))

  -- each form is read rightly where its arguments are
  read_form : (f : Expr-F ((e : Expr) × IsRead e)) → IsRead (roll-Expr (map-Expr ((e : Expr) × IsRead e) Expr (λ e. e.0) f))
  read_form (Num n) = read_num n
  read_form (Attr a) = read_attr a
  read_form (Count p) = read_count p
  read_form (CountOf p u) = read_count_of p u
  read_form (Sum p a) = read_sum p a
  read_form (Total u a) = read_total u a
  read_form (Number u) = read_number u
  read_form (Add es) = read_add es
  read_form (Sub e f) = read_sub e.0 f.0 e.1 f.1
  read_form (Times k e) = read_times k e.0 e.1
  read_form (Cmp r e f) = read_cmp r e.0 f.0 e.1 f.1
  read_form (Is a w) = read_is a w
  read_form (Kind u) = read_kind u
  read_form (And es) = read_and es
  read_form (Or es) = read_or es
  read_form (Not e) = read_not e.0 e.1
  read_form (If e f) = read_if e.0 f.0 e.1 f.1
  read_form (All p e) = read_all p e.0 e.1
  read_form (Any p e) = read_any p e.0 e.1

  read : (e : Expr) → IsRead e
  read = ind-Expr IsRead (λ x y same. subst (λ f. IsRead (roll-Expr f)) same (read_form y))

told_some : {A : Type 0} (o : Option A) → IsTrue (is_some o) → (b : A) × (o ≡ Some b)
told_some None told = absurd (false≢true told)
told_some (Some b) told = (b, refl)

pub reads_are_entailed : ReadsAreEntailed
reads_are_entailed m s e t i is =
    let entailed = read m s is.valid is.state is.whole e i t is.made is.under (told_some (bounds_at m e t) is.bounded) in
    record { low = entailed.0.0; high = entailed.0.1; truth = entailed.1 }
