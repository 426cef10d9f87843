-- The faults of an expression are those that the searches look for.
use Rattle.std.proofs.Common.{◌≡◌, ℕ, zero, suc, ◌+◌, ◌∙◌, sym, ap, subst, refl, Bool, true, false, not, List, [], ◌∷◌, ◌++◌, length, Option, Some, None, Contains, append_assoc, append-nil, inl, inr, arith}
use Rattle.std.specs.Prelude.{is_some, is_none, IsTrue}
use Rattle.std.specs.Option.{option_map_or, option_and_then}
use Rattle.std.proofs.lemmas.Bool.{false≢true}
use Rattle.std.proofs.lemmas.Bool.Decides.{nat_tests}
use Rattle.std.proofs.lemmas.List.Elements.{Contains-append_left, Contains-append_right, Contains-append_cases}
use Rattle.base_laws.specs.Places.{IsAt}
use Rattle.base_laws.proofs.Elements.{none_contained, contains_flat, flat_contained}
use Rattle.expr_bounds.proofs.Elements.{contains_places, places_contained, whole_contained, contains_whole, unless_contained, contains_unless}
use Rattle.prod_model.specs.declared.model.Model.{Model}
use Rattle.prod_model.specs.declared.expr.Expr.{Expr}
use Rattle.prod_model.specs.declared.expr.Expr.TheViews.{out-Expr}
use Rattle.prod_model.specs.Limits.{most_nesting}
use Rattle.prod_model.specs.ExprBounds.{bounds_at}
use Rattle.expr_bounds.specs.steps.Arguments.{argument_list, first_place}
use Rattle.expr_bounds.specs.Parts.{IsPart, whole, argument, arguments, type_of_arguments}
use Rattle.expr_bounds.specs.Ends.{is_wide}
use Rattle.expr_bounds.specs.Faults.{HasExprFault, deep, unknown_name, wrong_argument, wrong_attribute, wide, unknown_names, wrong_arguments, wrong_attributes, place_unless, same_truth, needs_truths, is_truth_form}
use Rattle.expr_bounds.specs.steps.Search.{levels_below, whole_at, standing_below, whole_if, places, is_too_deep, is_wrong_kind, has_bounded_arguments, is_innermost_unbounded, own_faults, HasFaultAt, own, inner, fault_of}
use Rattle.expr_bounds.specs.declared.fault.ExprFault.{ExprFault}
use Rattle.expr_bounds.specs.declared.fault_kind.FaultKind.{FaultKind}
use Rattle.expr_bounds.specs.declared.fault_kind.FaultKind.TheVariants.{Deep, UnknownName, WrongKind, Wide}
use Rattle.expr_bounds.specs.declared.standing.Standing.{Standing}
use Rattle.expr_bounds.proofs.ArgumentLaws.{argument_index, argument_contained}
use Rattle.expr_bounds.proofs.BoundsLaws.{bounds_at_form}
use Rattle.expr_bounds.proofs.EndsLaws.{wide_unbounded, wide_arguments}
use Rattle.expr_bounds.proofs.PartStandings.{levels_after, levels_left, no_levels, length_step, stands}
use Rattle.base_laws.proofs.Tests.{list_all_from}

-- the kind of a fault, and its path
pub record Found (m : Model) (e : Expr) (t : ℕ) (f : ExprFault) : Type 0 where
  pub fault_kind : FaultKind
  pub path : List ℕ
  pub is : f ≡ fault_of fault_kind path
  pub has : HasFaultAt m fault_kind e (whole_at t) path

-- ---- each fault is found

not_same : (b c : Bool) → same_truth b c ≡ false → not (same_truth b c) ≡ true
not_same b c differ = ap not differ

all_of : (m : Model) (part : Expr) (of : ℕ)
    → ((i : ℕ) (arg : Expr) → IsAt (argument_list (out-Expr part)) i arg → option_map_or (λ u. is_some (bounds_at m arg u)) (type_of_arguments m (out-Expr part) (Some of)) false ≡ true)
    → has_bounded_arguments m part of ≡ true
all_of m part of each =
    list_all_from (λ arg. option_map_or (λ u. is_some (bounds_at m arg u)) (type_of_arguments m (out-Expr part) (Some of)) false) (argument_list (out-Expr part)) each

pub too_deep : (levels : Option ℕ) → is_too_deep levels ≡ true → levels ≡ Some 0
too_deep None none = absurd (false≢true none)
too_deep (Some zero) none = refl
too_deep (Some (suc n)) none = let e : suc n ≡ 0 = grind (arith, nat_tests) in ap (λ k. Some k) e

same_not : (b c : Bool) → not (same_truth b c) ≡ true → same_truth b c ≡ false
same_not b c differ = grind (arith)

module _ (m : Model) (e : Expr) (t : ℕ) where
  find_deep : (path : List ℕ) (part : Expr) (of : Option ℕ) → IsPart m e t path part of → length path ≡ most_nesting → HasFaultAt m Deep e (whole_at t) path
  find_deep path part of is steps =
      let s = stands m e t Deep path part of is in
      let none : s.standing.levels ≡ Some 0 = s.levels ∙ ap levels_after steps ∙ levels_left 16 (omega arith) in
      let There : List ℕ → Type 0 = λ p. HasFaultAt m Deep e (whole_at t) p in
      subst There (append-nil path) (s.lifts [] (own (contains_whole (is_too_deep s.standing.levels) (ap is_too_deep none))))

  pub find_name : (path : List ℕ) (part : Expr) (of : ℕ) → IsPart m e t path part (Some of) → (k : ℕ) → Contains (unknown_names m (out-Expr part) of) k
      → HasFaultAt m UnknownName e (whole_at t) (path ++ k ∷ [])
  find_name path part of is k among =
      let s = stands m e t UnknownName path part (Some of) is in
      let Among : Option ℕ → Type 0 = λ at. Contains (places (option_map_or (unknown_names m (out-Expr part)) at [])) (k ∷ []) in
      s.lifts (k ∷ []) (own (subst Among (sym s.at) (contains_places (unknown_names m (out-Expr part) of) k among)))

  pub find_attribute : (path : List ℕ) (part : Expr) (of : ℕ) → IsPart m e t path part (Some of) → (k : ℕ) → Contains (wrong_attributes m (out-Expr part) of) k
      → HasFaultAt m WrongKind e (whole_at t) (path ++ k ∷ [])
  find_attribute path part of is k among =
      let s = stands m e t WrongKind path part (Some of) is in
      let Among : Option ℕ → Type 0 = λ at. Contains (places (option_map_or (wrong_attributes m (out-Expr part)) at [])) (k ∷ []) in
      s.lifts (k ∷ []) (own (Contains-append_right (whole_if (is_wrong_kind s.standing.needs_truth (out-Expr part))) (places (option_map_or (wrong_attributes m (out-Expr part)) s.standing.at [])) (k ∷ [])
      (subst Among (sym s.at) (contains_places (wrong_attributes m (out-Expr part) of) k among))))

  pub find_argument : (path : List ℕ) (part : Expr) (of : Option ℕ) → IsPart m e t path part of → (k : ℕ) → Contains (wrong_arguments (out-Expr part)) k
      → HasFaultAt m WrongKind e (whole_at t) (path ++ k ∷ [])
  find_argument path part of is k among =
      let s = stands m e t WrongKind path part of is in
      let found = flat_contained (λ (arg : ℕ × Expr). place_unless (same_truth (needs_truths (out-Expr part)) (is_truth_form (out-Expr arg.1))) arg.0) (arguments (out-Expr part)) k among in
      let place = found.0.0 in
      let arg = found.0.1 in
      let wrong = unless_contained (same_truth (needs_truths (out-Expr part)) (is_truth_form (out-Expr arg))) place k found.2 in
      let at = argument_index (out-Expr part) place arg found.1 in
      let below = standing_below m part s.standing in
      let here : Contains (own_faults m WrongKind arg below) [] =
      Contains-append_left (whole_if (is_wrong_kind below.needs_truth (out-Expr arg))) (places (option_map_or (wrong_attributes m (out-Expr arg)) below.at [])) []
      (contains_whole (is_wrong_kind below.needs_truth (out-Expr arg)) (not_same (needs_truths (out-Expr part)) (is_truth_form (out-Expr arg)) wrong.0)) in
      let Here : ℕ → Type 0 = λ j. HasFaultAt m WrongKind part s.standing (j ∷ []) in
      s.lifts (k ∷ []) (subst Here (sym at.2 ∙ wrong.1) (inner at.0 arg at.1 (own here)))

  find_wide : (path : List ℕ) (part : Expr) (of : ℕ) → IsPart m e t path part (Some of) → IsTrue (is_wide m (out-Expr part) of) → HasFaultAt m Wide e (whole_at t) path
  find_wide path part of is beyond =
      let s = stands m e t Wide path part (Some of) is in
      let There : List ℕ → Type 0 = λ p. HasFaultAt m Wide e (whole_at t) p in
      let unbounded : is_none (bounds_at m part of) ≡ true = ap is_none (bounds_at_form m part of ∙ wide_unbounded m (out-Expr part) of beyond) in
      let all = all_of m part of (wide_arguments m (out-Expr part) of beyond) in
      let wide : is_innermost_unbounded m part of ≡ true = grind (arith) in
      subst There (append-nil path) (s.lifts [] (own (contains_whole (option_map_or (is_innermost_unbounded m part) s.standing.at false) (ap (λ at. option_map_or (is_innermost_unbounded m part) at false) s.at ∙ wide))))

  pub found : (f : ExprFault) → HasExprFault m e t f → Found m e t f
  found f (deep path part of is at same) = record { fault_kind = Deep; path = path; is = same; has = find_deep path part of is at }
  found f (unknown_name path part of is k among same) = record { fault_kind = UnknownName; path = path ++ k ∷ []; is = same; has = find_name path part of is k among }
  found f (wrong_argument path part of is k among same) = record { fault_kind = WrongKind; path = path ++ k ∷ []; is = same; has = find_argument path part of is k among }
  found f (wrong_attribute path part of is k among same) = record { fault_kind = WrongKind; path = path ++ k ∷ []; is = same; has = find_attribute path part of is k among }
  found f (wide path part of is beyond same) = record { fault_kind = Wide; path = path; is = same; has = find_wide path part of is beyond }

  -- ---- what is found is a fault

  -- Where a search for wide parts looks, each innermost part without bounds is wide.
  abbrev pub OnlyWideUnbounded : FaultKind → Type 0
  OnlyWideUnbounded k = k ≡ Wide → (path : List ℕ) (part : Expr) (of : ℕ) → IsPart m e t path part (Some of) → is_innermost_unbounded m part of ≡ true → is_wide m (out-Expr part) of ≡ true

  -- a part of the wrong kind is to blame on the part around it
  abbrev Blames : List ℕ → Expr → Standing → Type 0
  Blames path part s = is_wrong_kind s.needs_truth (out-Expr part) ≡ true → HasExprFault m e t (fault_of WrongKind path)

  wrong_name : (path : List ℕ) (part : Expr) (s : Standing) (at : Option ℕ) → s.at ≡ at → IsPart m e t path part at
      → (rest : List ℕ) → Contains (places (option_map_or (wrong_attributes m (out-Expr part)) s.at [])) rest → HasExprFault m e t (fault_of WrongKind (path ++ rest))
  wrong_name path part s None same is rest among =
      let Among : Option ℕ → Type 0 = λ o. Contains (places (option_map_or (wrong_attributes m (out-Expr part)) o [])) rest in
      absurd (none_contained rest (subst Among same among))
  wrong_name path part s (Some of) same is rest among =
      let Among : Option ℕ → Type 0 = λ o. Contains (places (option_map_or (wrong_attributes m (out-Expr part)) o [])) rest in
      let here = places_contained (wrong_attributes m (out-Expr part) of) rest (subst Among same among) in
      wrong_attribute path part of is here.0 here.1 (ap (λ r. fault_of WrongKind (path ++ r)) (sym here.2))

  own_fault : (k : FaultKind) → OnlyWideUnbounded k → (path : List ℕ) (part : Expr) (s : Standing) (at : Option ℕ) → s.at ≡ at → IsPart m e t path part at → s.levels ≡ levels_after (length path) → Blames path part s
      → (rest : List ℕ) → Contains (own_faults m k part s) rest → HasExprFault m e t (fault_of k (path ++ rest))
  own_fault Deep widths path part s at same is levels blames rest among =
      let here = whole_contained (is_too_deep s.levels) rest among in
      let Fault : List ℕ → Type 0 = λ p. HasExprFault m e t (fault_of Deep p) in
      subst Fault (sym (append-nil path) ∙ ap (λ r. path ++ r) here.1)
      (deep path part at is (no_levels (length path) (sym levels ∙ too_deep s.levels here.0)) refl)
  own_fault UnknownName widths path part s None same is levels blames rest among =
      let Among : Option ℕ → Type 0 = λ o. Contains (places (option_map_or (unknown_names m (out-Expr part)) o [])) rest in
      absurd (none_contained rest (subst Among same among))
  own_fault UnknownName widths path part s (Some of) same is levels blames rest among =
      let Among : Option ℕ → Type 0 = λ o. Contains (places (option_map_or (unknown_names m (out-Expr part)) o [])) rest in
      let here = places_contained (unknown_names m (out-Expr part) of) rest (subst Among same among) in
      unknown_name path part of is here.0 here.1 (ap (λ r. fault_of UnknownName (path ++ r)) (sym here.2))
  own_fault WrongKind widths path part s at same is levels blames rest among =
      elim (Contains-append_cases (whole_if (is_wrong_kind s.needs_truth (out-Expr part))) (places (option_map_or (wrong_attributes m (out-Expr part)) s.at [])) rest among) [
        | inl there ↦ (let here = whole_contained (is_wrong_kind s.needs_truth (out-Expr part)) rest there in
            let Fault : List ℕ → Type 0 = λ p. HasExprFault m e t (fault_of WrongKind p) in
            subst Fault (sym (append-nil path) ∙ ap (λ r. path ++ r) here.1) (blames here.0))
        | inr name ↦ wrong_name path part s at same is rest name
      ]
  own_fault Wide widths path part s None same is levels blames rest among =
      let here = whole_contained (option_map_or (is_innermost_unbounded m part) s.at false) rest among in
      absurd (false≢true (ap (λ o. option_map_or (is_innermost_unbounded m part) o false) (sym same) ∙ here.0))
  own_fault Wide widths path part s (Some of) same is levels blames rest among =
      let here = whole_contained (option_map_or (is_innermost_unbounded m part) s.at false) rest among in
      let unbounded : is_innermost_unbounded m part of ≡ true = ap (λ o. option_map_or (is_innermost_unbounded m part) o false) (sym same) ∙ here.0 in
      let Fault : List ℕ → Type 0 = λ p. HasExprFault m e t (fault_of Wide p) in
      subst Fault (sym (append-nil path) ∙ ap (λ r. path ++ r) here.1) (wide path part of is (widths refl path part of is unbounded) refl)

  pub fault : (k : FaultKind) → OnlyWideUnbounded k → (part : Expr) (s : Standing) (rest : List ℕ) → HasFaultAt m k part s rest
      → (path : List ℕ) → IsPart m e t path part s.at → s.levels ≡ levels_after (length path) → Blames path part s → HasExprFault m e t (fault_of k (path ++ rest))
  fault k widths part s rest (own among) path is levels blames = own_fault k widths path part s s.at refl is levels blames rest among
  fault k widths part s rest (inner i arg found {path = rest'} has) path is levels blames =
      let place = first_place (out-Expr part) + i in
      let among = argument_contained (out-Expr part) i arg found in
      let Fault : List ℕ → Type 0 = λ p. HasExprFault m e t (fault_of k p) in
      let below = standing_below m part s in
      subst Fault (append_assoc path (place ∷ []) rest')
      (fault k widths arg below rest' has (path ++ place ∷ []) (argument path part s.at is place arg among)
      (ap (option_and_then levels_below) levels ∙ ap levels_after (sym (length_step path place)))
      (λ wrong. wrong_argument path part s.at is place (contains_flat (λ (a : ℕ × Expr). place_unless (same_truth (needs_truths (out-Expr part)) (is_truth_form (out-Expr a.1))) a.0)
      (arguments (out-Expr part)) (place, arg) place among (contains_unless (same_truth (needs_truths (out-Expr part)) (is_truth_form (out-Expr arg))) place (same_not (needs_truths (out-Expr part)) (is_truth_form (out-Expr arg)) wrong))) refl))

  pub fault_of_whole : (k : FaultKind) → OnlyWideUnbounded k → (path : List ℕ) → HasFaultAt m k e (whole_at t) path → HasExprFault m e t (fault_of k path)
  fault_of_whole k widths path has = fault k widths e (whole_at t) path has [] whole refl (λ wrong. absurd (false≢true wrong))
