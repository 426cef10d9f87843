-- The main law, by one induction over expressions.
use Rattle.std.proofs.Common.{◌≡◌, ℕ, ℤ, pos, Bool, true, false, not, ◌&&◌, ◌||◌, cond, List, [], ◌∷◌, map, Option, Some, None, refl, sym, ap, ◌∙◌, subst}
use Rattle.std.specs.Prelude.{IsTrue, nat_lt, is_some}
use Rattle.std.specs.Option.{option_map_or, option_and_then}
use Rattle.std.specs.List.{list_all, list_any}
use Rattle.std.proofs.lemmas.Bool.{false≢true, and_parts}
use Rattle.std.proofs.lemmas.Simd.{map-map}
use Rattle.prod_model.specs.declared.model.Model.{Model}
use Rattle.prod_model.specs.declared.model.PortAt.{PortAt}
use Rattle.prod_model.specs.declared.expr_bounds.Bounds.{Bounds}
use Rattle.prod_model.specs.declared.expr.Expr.{Expr, map-Expr}
use Rattle.prod_model.specs.declared.expr.Expr.TheOpen.{Expr-F, Num, Attr, Count, CountOf, Sum, Total, Number, Add, Sub, Times, Cmp, Is, Kind, And, Or, Not, If, All, Any}
use Rattle.prod_model.specs.declared.expr.Expr.TheViews.{roll-Expr}
use Rattle.prod_model.specs.declared.expr.Expr.TheFolds.{ind-Expr}
use Rattle.prod_model.specs.declared.expr.Relation.{Relation}
use Rattle.prod_model.specs.Taxonomy.{declared_port_of}
use Rattle.prod_model.specs.ExprBounds.{bounds_at, truth_of, has_arguments}
use Rattle.prod_model.specs.steps.ExprBounds.{sum_onto}
use Rattle.prod_model.specs.Valid.{IsDeclared}
use Rattle.prod_model.proofs.ExprBoundsLaws.{bounds_at_Add_onto, bounds_at_Sub, bounds_at_Times, bounds_at_Cmp, bounds_at_And, bounds_at_Or, bounds_at_Not, bounds_at_If, bounds_at_All, bounds_at_Any}
use Rattle.config_value.specs.declared.configuration.Instance.{Instance}
use Rattle.config_value.specs.Value.{value_at, links_at_instance, as_number, as_truth, number_at, is_true_at}
use Rattle.prod_model.specs.ExprBounds.{sum_of}
use Rattle.base_laws.specs.Places.{IsAt}
use Rattle.config_value.specs.ShapedSentences.{IsInstanceUnder}
use Rattle.config_value.specs.Shaped.{is_shaped}
use Rattle.config_value.proofs.ValueLaws.{value_at_Add, value_at_Sub, value_at_Times, value_at_Cmp, value_at_Is, value_at_Kind, value_at_And, value_at_Or, value_at_Not, value_at_If, value_at_All, value_at_Any}
use Rattle.state_values.proofs.ToldParts.{IsTold, difference_parts, multiple_part, comparison_parts, sum_parts, truth_parts}
use Rattle.config_value.proofs.ToldLaws.{and_then_some, if_some}
use Rattle.state_space.specs.Sets.{has_number}
use Rattle.state_space.specs.State.{State, number_made}
use Rattle.state_values.specs.Sights.{made_numbers, is_surely_under}
use Rattle.state_values.specs.Kleene.{Open, negated, both, either, implied, all_of, any_of}
use Rattle.state_values.specs.Ranges.{ranges_sum}
use Rattle.state_values.specs.Fits.{FitsTruth}
use Rattle.state_values.specs.Seen.{Between, Truth, as_range, as_kleene, Part, seen_at, at_linked}
use Rattle.state_values.specs.Sights.{linked, is_closed}
use Rattle.state_values.specs.Laws.{SeenHolds}
use Rattle.state_values.proofs.SeenLaws.{as_part}
use Rattle.state_values.proofs.KleeneLaws.{fits_negated, fits_both, fits_either, fits_all_of, fits_any_of}
use Rattle.state_values.proofs.RangeLaws.{fits_ranges_sum, fits_range_difference, fits_range_multiple, fits_compared}
use Rattle.state_values.proofs.LiteralLaws.{Has, fits_under_type, fits_linked, fits_closed, fits_has_word}
use Rattle.state_values.proofs.LinkedTruths.{fits_implied, fits_joined, all_by_numbers, any_by_numbers}
use Rattle.base_laws.proofs.Places.{map_at}
use Rattle.state_values.proofs.HeldForms as forms

all_or : {A : Type 0} (p q : A → Bool) (xs : List A) → IsTrue (list_all p xs) → IsTrue (list_all (λ x. p x || q x) xs)
all_or p q [] all = refl
all_or p q (x ∷ xs) all =
    let parts = and_parts (p x) (list_all p xs) all in
    ap (λ b. (b || q x) && list_all (λ x. p x || q x) xs) parts.0 ∙ all_or p q xs parts.1

module _ (m : Model) (st : State) (c : List Instance) (is : IsDeclared m) (shaped : IsTrue (is_shaped m c)) where
  -- where the expression has bounds at a type, what is seen of it at an instance under it fits
  abbrev IsHeld : Expr → Type 0
  IsHeld e = forms.IsHeld m st c is shaped e

  -- an argument that is held, and has bounds at the type
  part_of_list : (es : List ((e : Expr) × IsHeld e)) (k : ℕ) (e : Expr) → IsAt (map (λ e. e.0) es) k e → IsHeld e
  part_of_list es k e there = let part = map_at (λ (e : (e : Expr) × IsHeld e). e.0) es k e there in subst IsHeld part.2 part.0.1

  held_add : (es : List ((e : Expr) × IsHeld e)) → IsHeld (roll-Expr (Add (map (λ e. e.0) es)))
  held_add es i t x at below told =
      let args = map (λ (e : (e : Expr) × IsHeld e). e.0) es in
      let sums = if_some (has_arguments args) (sum_onto (pos 0) (pos 0) (map (λ e. bounds_at m e t) args)) told.0 (sym (bounds_at_Add_onto m t args) ∙ told.1) in
      forms.number_held m st c is shaped (Add args) i t x at below (ranges_sum (map (λ e. as_range (seen_at m st t i e)) args)) (sum_of (map (λ e. as_number (value_at m c i e)) args))
      (ap (λ rs. Between (ranges_sum rs)) (map-map (λ (e : Part). as_range (e.seen t i)) (as_part m st) args)) (value_at_Add m c i args)
      (fits_ranges_sum (Has m c) (λ e. as_range (seen_at m st t i e)) (λ e. as_number (value_at m c i e)) args
      (λ k e there. (part_of_list es k e there i t x at below (sum_parts (λ e. bounds_at m e t) (pos 0) (pos 0) args told.0 sums k e there)).0))

  held_sub : (e f : Expr) → IsHeld e → IsHeld f → IsHeld (roll-Expr (Sub e f))
  held_sub e f first second i t x at below told =
      let parts = difference_parts (bounds_at m e t) (bounds_at m f t) told.0 (sym (bounds_at_Sub m t e f) ∙ told.1) in
      forms.number_held m st c is shaped (Sub e f) i t x at below _ _ refl (value_at_Sub m c i e f)
      (fits_range_difference (Has m c) (as_range (seen_at m st t i e)) (as_range (seen_at m st t i f)) (number_at m c i e) (number_at m c i f)
      (first i t x at below parts.0).0 (second i t x at below parts.1).0)

  held_times : (k : ℤ) (e : Expr) → IsHeld e → IsHeld (roll-Expr (Times k e))
  held_times k e each i t x at below told =
      let part = multiple_part k (bounds_at m e t) told.0 (sym (bounds_at_Times m t k e) ∙ told.1) in
      forms.number_held m st c is shaped (Times k e) i t x at below _ _ refl (value_at_Times m c i k e)
      (fits_range_multiple (Has m c) k (as_range (seen_at m st t i e)) (number_at m c i e) (each i t x at below part).0)

  -- ---- forms of truths

  held_cmp : (r : Relation) (e f : Expr) → IsHeld e → IsHeld f → IsHeld (roll-Expr (Cmp r e f))
  held_cmp r e f first second i t x at below told =
      let parts = comparison_parts (bounds_at m e t) (bounds_at m f t) told.0 (sym (bounds_at_Cmp m t r e f) ∙ told.1) in
      forms.truth_held m st c is shaped (Cmp r e f) i t _ _ refl (value_at_Cmp m c i r e f)
      (fits_compared (Has m c) r (as_range (seen_at m st t i e)) (as_range (seen_at m st t i f)) (number_at m c i e) (number_at m c i f)
      (first i t x at below parts.0).0 (second i t x at below parts.1).0)

  held_is : (a w : ℕ) → IsHeld (roll-Expr (Is a w))
  held_is a w i t x at below told = forms.truth_held m st c is shaped (Is a w) i t _ _ refl (value_at_Is m c i a w) (fits_has_word m c st i a w)

  held_kind : (u : ℕ) → IsHeld (roll-Expr (Kind u))
  held_kind u i t x at below told = forms.truth_held m st c is shaped (Kind u) i t _ _ refl (value_at_Kind m c i u) (fits_under_type m c st u i)

  held_and : (es : List ((e : Expr) × IsHeld e)) → IsHeld (roll-Expr (And (map (λ e. e.0) es)))
  held_and es i t x at below told =
      let args = map (λ (e : (e : Expr) × IsHeld e). e.0) es in
      let truths = if_some (has_arguments args) (truth_of (map (λ e. bounds_at m e t) args)) told.0 (sym (bounds_at_And m t args) ∙ told.1) in
      forms.truth_held m st c is shaped (And args) i t (all_of (map (λ e. as_kleene (seen_at m st t i e)) args)) (list_all (λ e. as_truth (value_at m c i e)) args)
      (ap (λ os. Truth (all_of os)) (map-map (λ (e : Part). as_kleene (e.seen t i)) (as_part m st) args)) (value_at_And m c i args)
      (fits_all_of (Has m c) (λ e. as_kleene (seen_at m st t i e)) (λ e. as_truth (value_at m c i e)) args
      (λ k e there. (part_of_list es k e there i t x at below (truth_parts (λ e. bounds_at m e t) args told.0 truths k e there)).1))

  held_or : (es : List ((e : Expr) × IsHeld e)) → IsHeld (roll-Expr (Or (map (λ e. e.0) es)))
  held_or es i t x at below told =
      let args = map (λ (e : (e : Expr) × IsHeld e). e.0) es in
      let truths = if_some (has_arguments args) (truth_of (map (λ e. bounds_at m e t) args)) told.0 (sym (bounds_at_Or m t args) ∙ told.1) in
      forms.truth_held m st c is shaped (Or args) i t (any_of (map (λ e. as_kleene (seen_at m st t i e)) args)) (list_any (λ e. as_truth (value_at m c i e)) args)
      (ap (λ os. Truth (any_of os)) (map-map (λ (e : Part). as_kleene (e.seen t i)) (as_part m st) args)) (value_at_Or m c i args)
      (fits_any_of (Has m c) (λ e. as_kleene (seen_at m st t i e)) (λ e. as_truth (value_at m c i e)) args
      (λ k e there. (part_of_list es k e there i t x at below (truth_parts (λ e. bounds_at m e t) args told.0 truths k e there)).1))

  held_not : (e : Expr) → IsHeld e → IsHeld (roll-Expr (Not e))
  held_not e each i t x at below told =
      let part = truth_parts (λ e. bounds_at m e t) (e ∷ []) told.0 (sym (bounds_at_Not m t e) ∙ told.1) 0 e refl in
      forms.truth_held m st c is shaped (Not e) i t _ _ refl (value_at_Not m c i e)
      (fits_negated (Has m c) (as_kleene (seen_at m st t i e)) (is_true_at m c i e) (each i t x at below part).1)

  held_if : (e f : Expr) → IsHeld e → IsHeld f → IsHeld (roll-Expr (If e f))
  held_if e f first second i t x at below told =
      let parts = truth_parts (λ e. bounds_at m e t) (e ∷ f ∷ []) told.0 (sym (bounds_at_If m t e f) ∙ told.1) in
      forms.truth_held m st c is shaped (If e f) i t _ _ refl (value_at_If m c i e f)
      (fits_implied (Has m c) (as_kleene (seen_at m st t i e)) (as_kleene (seen_at m st t i f)) (is_true_at m c i e) (is_true_at m c i f)
      (first i t x at below (parts 0 e refl)).1 (λ is. (second i t x at below (parts 1 f refl)).1))

  -- what a truth is at a linked instance
  fits_at_linked : (e : Expr) → IsHeld e → (target j : ℕ) → IsTold (bounds_at m e target) → IsInstanceUnder m c target j
      → FitsTruth (Has m c) (at_linked m st (as_part m st e) target j) (is_true_at m c j e)
  fits_at_linked e each target j told y = by (is_surely_under m st target j)
    where
      by : (b : Bool) → FitsTruth (Has m c) (cond b (as_kleene (seen_at m st target j e)) Open) (is_true_at m c j e)
      by true = (each j target y.instance y.there y.of_type told).1
      by false = tt

  -- the port, and that the truth has bounds at its target
  record IsLinkedForm (t p : ℕ) (e : Expr) : Type 0 where
    q : PortAt
    found : declared_port_of m t p ≡ Some q
    inner : IsTold (bounds_at m e q.target)

  linked_form : (t p : ℕ) (e : Expr) (b : Bounds) → option_and_then (λ q. truth_of (bounds_at m e q.target ∷ [])) (declared_port_of m t p) ≡ Some b → IsLinkedForm t p e
  linked_form t p e b told =
      let port = and_then_some (λ q. truth_of (bounds_at m e q.target ∷ [])) (declared_port_of m t p) b told in
      record { q = port.0; found = port.1; inner = truth_parts (λ e. bounds_at m e port.0.target) (e ∷ []) b port.2 0 e refl }

  held_all : (p : ℕ) (e : Expr) → IsHeld e → IsHeld (roll-Expr (All p e))
  held_all p e each i t x at below told =
      let form = linked_form t p e told.0 (sym (bounds_at_All m t p e) ∙ told.1) in
      let q = form.q in
      let links = links_at_instance m c p i in
      let truth_at : ℕ → Bool = λ j. is_true_at m c j e in
      let o = both (all_of (map (λ j. implied (linked st i p j) (at_linked m st (as_part m st e) q.target j)) (made_numbers st))) (is_closed st i p) in
      forms.truth_held m st c is shaped (All p e) i t o (list_all truth_at links)
      (ap (λ r. Truth (option_map_or (λ q. both (all_of (map (λ j. implied (linked st i p j) (at_linked m st (as_part m st e) q.target j)) (made_numbers st))) (is_closed st i p)) r Open)) form.found)
      (value_at_All m c i p e)
      (subst (FitsTruth (Has m c) o) (all_by_numbers truth_at (number_made st) links)
      (fits_both (Has m c) (all_of (map (λ j. implied (linked st i p j) (at_linked m st (as_part m st e) q.target j)) (made_numbers st))) (is_closed st i p)
      (list_all (λ j. not (has_number links j) || truth_at j) (made_numbers st)) (list_all (λ j. nat_lt j (number_made st) || truth_at j) links)
      (fits_all_of (Has m c) (λ j. implied (linked st i p j) (at_linked m st (as_part m st e) q.target j)) (λ j. not (has_number links j) || truth_at j) (made_numbers st)
      (λ k j there. fits_implied (Has m c) (linked st i p j) (at_linked m st (as_part m st e) q.target j) (has_number links j) (truth_at j) (fits_linked m c st i p j)
      (λ among. fits_at_linked e each q.target j form.inner (forms.linked_at m st c is shaped i t p x q at below form.found j among))))
      (fits_closed m c st i p _ (all_or (λ j. nat_lt j (number_made st)) truth_at links))))

  held_any : (p : ℕ) (e : Expr) → IsHeld e → IsHeld (roll-Expr (Any p e))
  held_any p e each i t x at below told =
      let form = linked_form t p e told.0 (sym (bounds_at_Any m t p e) ∙ told.1) in
      let q = form.q in
      let links = links_at_instance m c p i in
      let truth_at : ℕ → Bool = λ j. is_true_at m c j e in
      let o = either (any_of (map (λ j. both (linked st i p j) (at_linked m st (as_part m st e) q.target j)) (made_numbers st))) (negated (is_closed st i p)) in
      forms.truth_held m st c is shaped (Any p e) i t o (list_any truth_at links)
      (ap (λ r. Truth (option_map_or (λ q. either (any_of (map (λ j. both (linked st i p j) (at_linked m st (as_part m st e) q.target j)) (made_numbers st))) (negated (is_closed st i p))) r Open)) form.found)
      (value_at_Any m c i p e)
      (subst (FitsTruth (Has m c) o) (any_by_numbers truth_at (number_made st) links)
      (fits_either (Has m c) (any_of (map (λ j. both (linked st i p j) (at_linked m st (as_part m st e) q.target j)) (made_numbers st))) (negated (is_closed st i p))
      (list_any (λ j. has_number links j && truth_at j) (made_numbers st)) (not (list_all (λ j. nat_lt j (number_made st) || not (truth_at j)) links))
      (fits_any_of (Has m c) (λ j. both (linked st i p j) (at_linked m st (as_part m st e) q.target j)) (λ j. has_number links j && truth_at j) (made_numbers st)
      (λ k j there. fits_joined (Has m c) (linked st i p j) (at_linked m st (as_part m st e) q.target j) (has_number links j) (truth_at j) (fits_linked m c st i p j)
      (λ among. fits_at_linked e each q.target j form.inner (forms.linked_at m st c is shaped i t p x q at below form.found j among))))
      (fits_negated (Has m c) (is_closed st i p) (list_all (λ j. nat_lt j (number_made st) || not (truth_at j)) links)
      (fits_closed m c st i p _ (all_or (λ j. nat_lt j (number_made st)) (λ j. not (truth_at j)) links)))))

  -- each form holds where its arguments do
  held_form : (f : Expr-F ((e : Expr) × IsHeld e)) → IsHeld (roll-Expr (map-Expr ((e : Expr) × IsHeld e) Expr (λ e. e.0) f))
  held_form (Num n) = forms.held_num m st c is shaped n
  held_form (Attr a) = forms.held_attr m st c is shaped a
  held_form (Count p) = forms.held_count m st c is shaped p
  held_form (CountOf p u) = forms.held_count_of m st c is shaped p u
  held_form (Sum p a) = forms.held_sum m st c is shaped p a
  held_form (Total u a) = forms.held_total m st c is shaped u a
  held_form (Number u) = forms.number_of_instances m st c is shaped u
  held_form (Add es) = held_add es
  held_form (Sub e f) = held_sub e.0 f.0 e.1 f.1
  held_form (Times k e) = held_times k e.0 e.1
  held_form (Cmp r e f) = held_cmp r e.0 f.0 e.1 f.1
  held_form (Is a w) = held_is a w
  held_form (Kind u) = held_kind u
  held_form (And es) = held_and es
  held_form (Or es) = held_or es
  held_form (Not e) = held_not e.0 e.1
  held_form (If e f) = held_if e.0 f.0 e.1 f.1
  held_form (All p e) = held_all p e.0 e.1
  held_form (Any p e) = held_any p e.0 e.1

  held : (e : Expr) → IsHeld e
  held = ind-Expr IsHeld (λ x y same. subst (λ f. IsHeld (roll-Expr f)) same (held_form y))

told_some : {A : Type 0} (o : Option A) → IsTrue (is_some o) → (b : A) × (o ≡ Some b)
told_some None told = absurd (false≢true told)
told_some (Some b) told = (b, refl)

pub seen_holds : SeenHolds
seen_holds m st c e t i read =
    held m st c read.declared read.shaped e i t read.instance read.there read.under
    (told_some (bounds_at m e t) read.bounded)
