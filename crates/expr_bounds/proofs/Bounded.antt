-- An expression that has bounds and doesn't nest too deep has no fault.
use Rattle.std.proofs.Common.{◌≡◌, ℕ, zero, suc, ◌<◌, ◌≤◌, ◌∙◌, sym, ap, subst, refl, Bool, true, false, not, ◌&&◌, List, [], Option, Some, None, Contains, inl, inr, arith}
use Rattle.std.specs.Prelude.{is_some, is_none}
use Rattle.std.specs.Option.{option_map_or, option_and_then}
use Rattle.std.proofs.lemmas.Bool.{false≢true}
use Rattle.std.proofs.lemmas.List.Elements.{Contains-append_cases}
use Rattle.prod_model.specs.declared.model.Model.{Model}
use Rattle.prod_model.specs.declared.expr_bounds.Bounds.{Bounds}
use Rattle.prod_model.specs.declared.expr.Expr.{Expr}
use Rattle.prod_model.specs.declared.expr.Expr.TheViews.{out-Expr}
use Rattle.prod_model.specs.Limits.{most_nesting}
use Rattle.prod_model.specs.Nesting.{nesting}
use Rattle.prod_model.specs.ExprBounds.{bounds_at}
use Rattle.expr_bounds.specs.Parts.{type_of_arguments}
use Rattle.expr_bounds.specs.Faults.{unknown_names, wrong_attributes, is_truth_form, needs_truths, same_truth}
use Rattle.expr_bounds.specs.Laws.{BoundedHasNoFault}
use Rattle.expr_bounds.specs.steps.Search.{levels_below, whole_at, standing_below, whole_if, places, is_too_deep, is_wrong_kind, is_innermost_unbounded, has_bounded_arguments, own_faults, HasFaultAt, own, inner}
use Rattle.expr_bounds.specs.declared.fault_kind.FaultKind.{FaultKind}
use Rattle.expr_bounds.specs.declared.fault_kind.FaultKind.TheVariants.{Deep, UnknownName, WrongKind, Wide}
use Rattle.expr_bounds.specs.declared.standing.Standing.{Standing}
use Rattle.expr_bounds.proofs.ArgumentLaws.{nesting_argument, nesting_some}
use Rattle.expr_bounds.proofs.BoundsLaws.{bounds_at_form}
use Rattle.base_laws.proofs.Elements.{none_contained}
use Rattle.expr_bounds.proofs.Elements.{whole_contained}
use Rattle.expr_bounds.proofs.FaultsFound.{too_deep, found}
use Rattle.expr_bounds.proofs.FormSound.{kind_of, some_kind, sound_at}

-- ---- depth

not_too_deep : (m : Model) (e : Expr) (s : Standing) (path : List ℕ) → s.levels ≡ None → ¬ HasFaultAt m Deep e s path
not_too_deep m e s path gone (own among) = false≢true (sym (ap is_too_deep gone) ∙ (whole_contained (is_too_deep s.levels) path among).0)
not_too_deep m e s path gone (inner i arg at {path = rest} has) = not_too_deep m arg (standing_below m e s) rest (ap (option_and_then levels_below) gone) has

nests_deep : (m : Model) (n : ℕ) (e : Expr) (s : Standing) (path : List ℕ) → s.levels ≡ Some n → HasFaultAt m Deep e s path → n < nesting e
nests_deep m n e s path levels (own among) =
    let none : n ≡ 0 = ap (λ o. option_map_or (λ k. k) o 0) (sym levels ∙ too_deep s.levels (whole_contained (is_too_deep s.levels) path among).0) in
    omega (arith, nesting_some e)
nests_deep m zero e s path levels (inner i arg at {path = rest} has) = absurd (not_too_deep m arg (standing_below m e s) rest (ap (option_and_then levels_below) levels) has)
nests_deep m (suc n) e s path levels (inner i arg at {path = rest} has) =
    omega (arith, nesting_argument e i arg at, nests_deep m n arg (standing_below m e s) rest (ap (option_and_then levels_below) levels) has)

-- ---- names, kinds and width

self_kind : (b c : Bool) → b ≡ c → not (same_truth b c) ≡ false
self_kind true c same = ap not (sym same)
self_kind false c same = ap (λ x. not (not x)) (sym same)

-- an argument is of the kind that is needed
right_kind : (m : Model) (arg : Expr) (u : ℕ) (needed : Bool) → kind_of (bounds_at m arg u) ≡ Some needed → is_wrong_kind (Some needed) (out-Expr arg) ≡ false
right_kind m arg u needed is =
    let form = (sound_at m arg u (some_kind (bounds_at m arg u) needed is)).kind in
    let same : needed ≡ is_truth_form (out-Expr arg) = ap (λ o. option_map_or (λ b. b) o false) (sym is ∙ ap kind_of (bounds_at_form m arg u) ∙ form) in
    self_kind needed (is_truth_form (out-Expr arg)) same

not_wide : (o : Option Bounds) (b : Bool) → is_some o ≡ true → ¬ ((is_none o && b) ≡ true)
not_wide None b is wide = false≢true is
not_wide (Some x) b is wide = false≢true wide

no_own : (m : Model) (k : FaultKind) → ¬ (k ≡ Deep) → (e : Expr) (t : ℕ) (s : Standing) → s.at ≡ Some t → is_some (bounds_at m e t) ≡ true → is_wrong_kind s.needs_truth (out-Expr e) ≡ false
    → (path : List ℕ) → ¬ Contains (own_faults m k e s) path
no_own m Deep shallow e t s at is right path among = shallow refl
no_own m UnknownName shallow e t s at is right path among =
    let Among : List ℕ → Type 0 = λ ks. Contains (places ks) path in
    none_contained path (subst Among (ap (λ o. option_map_or (unknown_names m (out-Expr e)) o []) at ∙ (sound_at m e t is).names) among)
no_own m WrongKind shallow e t s at is right path among =
    elim (Contains-append_cases (whole_if (is_wrong_kind s.needs_truth (out-Expr e))) (places (option_map_or (wrong_attributes m (out-Expr e)) s.at [])) path among) [
      | inl there ↦ false≢true (sym right ∙ (whole_contained (is_wrong_kind s.needs_truth (out-Expr e)) path there).0)
      | inr name ↦ (let Among : List ℕ → Type 0 = λ ks. Contains (places ks) path in
          none_contained path (subst Among (ap (λ o. option_map_or (wrong_attributes m (out-Expr e)) o []) at ∙ (sound_at m e t is).attributes) name))
    ]
no_own m Wide shallow e t s at is right path among =
    let wide : is_innermost_unbounded m e t ≡ true = ap (λ o. option_map_or (is_innermost_unbounded m e) o false) (sym at) ∙ (whole_contained (option_map_or (is_innermost_unbounded m e) s.at false) path among).0 in
    not_wide (bounds_at m e t) (has_bounded_arguments m e t) is wide

no_fault : (m : Model) (k : FaultKind) → ¬ (k ≡ Deep) → (e : Expr) (t : ℕ) (s : Standing) → s.at ≡ Some t → is_some (bounds_at m e t) ≡ true → is_wrong_kind s.needs_truth (out-Expr e) ≡ false
    → (path : List ℕ) → ¬ HasFaultAt m k e s path
no_fault m k shallow e t s at is right path (own among) = no_own m k shallow e t s at is right path among
no_fault m k shallow e t s at is right path (inner i arg there {path = rest} has) =
    let needed = needs_truths (out-Expr e) in
    let below = (sound_at m e t is).arguments i arg there in
    no_fault m k shallow arg below.0 (standing_below m e s) (ap (type_of_arguments m (out-Expr e)) at ∙ below.1) (some_kind (bounds_at m arg below.0) needed below.2)
    (right_kind m arg below.0 needed below.2) rest has

-- ---- the law

no_kind : (m : Model) (k : FaultKind) (e : Expr) (t : ℕ) → is_some (bounds_at m e t) ≡ true → nesting e ≤ most_nesting → (path : List ℕ) → ¬ HasFaultAt m k e (whole_at t) path
no_kind m Deep e t is few path has = omega (arith, nests_deep m 16 e (whole_at t) path refl has)
no_kind m UnknownName e t is few path has = no_fault m UnknownName (λ same. cc) e t (whole_at t) refl is refl path has
no_kind m WrongKind e t is few path has = no_fault m WrongKind (λ same. cc) e t (whole_at t) refl is refl path has
no_kind m Wide e t is few path has = no_fault m Wide (λ same. cc) e t (whole_at t) refl is refl path has

pub bounded_has_no_fault : BoundedHasNoFault
bounded_has_no_fault m e t is few f fault = let here = found m e t f fault in no_kind m here.fault_kind e t is few here.path here.has
