-- Where no name is unknown and no kind is wrong, the innermost parts without bounds are wide.
use Rattle.std.proofs.Common.{◌≡◌, ℕ, ◌+◌, ◌∙◌, sym, ap, refl, Bool, true, false, List, [], ◌∷◌, Option, Some, None, IsTrue, Contains, arith}
use Rattle.std.specs.Prelude.{is_some, is_none}
use Rattle.std.specs.Option.{option_map_or}
use Rattle.std.proofs.lemmas.Bool.{false≢true}
use Rattle.base_laws.specs.Places.{IsAt}
use Rattle.prod_model.specs.declared.model.Model.{Model}
use Rattle.prod_model.specs.declared.expr.Expr.{Expr}
use Rattle.prod_model.specs.declared.expr.Expr.TheViews.{out-Expr}
use Rattle.prod_model.specs.ExprBounds.{bounds_at}
use Rattle.base_laws.proofs.Tests.{list_all_at, option_map_or_at}
use Rattle.expr_bounds.specs.steps.Arguments.{argument_list, first_place, has_right_count}
use Rattle.expr_bounds.specs.Ends.{is_wide}
use Rattle.expr_bounds.specs.Faults.{place_unless, same_truth, needs_truths, is_truth_form, wrong_arguments}
use Rattle.expr_bounds.specs.Forms.{is_form}
use Rattle.expr_bounds.specs.Parts.{IsPart, whole, argument, arguments, type_of_arguments}
use Rattle.expr_bounds.specs.steps.Search.{whole_at, has_bounded_arguments, is_innermost_unbounded, HasFaultAt}
use Rattle.expr_bounds.specs.declared.fault_kind.FaultKind.TheVariants.{UnknownName, WrongKind}
use Rattle.expr_bounds.proofs.ArgumentLaws.{argument_index, argument_contained}
use Rattle.expr_bounds.proofs.BoundsLaws.{bounds_at_form}
use Rattle.base_laws.proofs.Elements.{contains_flat}
use Rattle.expr_bounds.proofs.Elements.{contains_unless}
use Rattle.expr_bounds.proofs.EndsLaws.{unbounded_wide}
use Rattle.expr_bounds.proofs.FaultsFound.{find_name, find_attribute, find_argument}
use Rattle.expr_bounds.proofs.FormLaws.{formed_argument}
use Rattle.expr_bounds.proofs.FormedLaws.{is_form_form}
use Rattle.expr_bounds.proofs.FormSound.{kind_of, HasKind, sound_at}

no_elements : {X : Type 0} (xs : List X) → ((x : X) → ¬ Contains xs x) → xs ≡ []
no_elements [] none = refl
no_elements (x ∷ xs) none = absurd (none x (0, omega arith, refl))

true_unless_false : (b : Bool) → ¬ (b ≡ false) → b ≡ true
true_unless_false true holds = refl
true_unless_false false holds = absurd (holds refl)

same_is : (b c : Bool) → same_truth b c ≡ true → b ≡ c
same_is true c same = sym same
same_is false true same = absurd (false≢true same)
same_is false false same = refl

none_there : {A : Type 0} (o : Option A) → is_none o ≡ true → o ≡ None
none_there None none = refl
none_there (Some x) none = absurd (false≢true none)

-- where no kind is wrong, an argument that has bounds is of the kind that its form needs
right_argument : (m : Model) (part : Expr) (of : ℕ) → ((k : ℕ) → ¬ Contains (wrong_arguments (out-Expr part)) k) → has_bounded_arguments m part of ≡ true
    → (i : ℕ) (arg : Expr) → IsAt (argument_list (out-Expr part)) i arg
    → HasKind m arg (type_of_arguments m (out-Expr part) (Some of)) (needs_truths (out-Expr part))
right_argument m part of right all i arg found =
    let needed = needs_truths (out-Expr part) in
    let place = first_place (out-Expr part) + i in
    let passes = list_all_at (λ x. option_map_or (λ u. is_some (bounds_at m x u)) (type_of_arguments m (out-Expr part) (Some of)) false) (argument_list (out-Expr part)) all i arg found in
    let there = option_map_or_at (λ u. is_some (bounds_at m arg u)) (type_of_arguments m (out-Expr part) (Some of)) passes in
    let kind = ap kind_of (bounds_at_form m arg there.0) ∙ (sound_at m arg there.0 there.2).kind in
    let same = true_unless_false (same_truth needed (is_truth_form (out-Expr arg))) (λ differ.
    right place (contains_flat (λ (a : ℕ × Expr). place_unless (same_truth needed (is_truth_form (out-Expr a.1))) a.0) (arguments (out-Expr part)) (place, arg) place
    (argument_contained (out-Expr part) i arg found) (contains_unless (same_truth needed (is_truth_form (out-Expr arg))) place differ))) in
    (there.0, there.1, kind ∙ ap (λ b. Some b) (sym (same_is needed (is_truth_form (out-Expr arg)) same)))

module _ (m : Model) (e : Expr) (t : ℕ) where
  formed_part : IsTrue (is_form e) → (path : List ℕ) (part : Expr) (of : Option ℕ) → IsPart m e t path part of → IsTrue (is_form part)
  formed_part formed path part of whole = formed
  formed_part formed path part of (argument path' part' of' is k arg among) =
      let at = argument_index (out-Expr part') k arg among in
      formed_argument part' at.0 arg (formed_part formed path' part' of' is) at.1

  -- an innermost part without bounds is wide
  pub only_wide_unbounded : IsTrue (is_form e) → ((path : List ℕ) → ¬ HasFaultAt m UnknownName e (whole_at t) path) → ((path : List ℕ) → ¬ HasFaultAt m WrongKind e (whole_at t) path)
      → (path : List ℕ) (part : Expr) (of : ℕ) → IsPart m e t path part (Some of) → is_innermost_unbounded m part of ≡ true → is_wide m (out-Expr part) of ≡ true
  only_wide_unbounded formed known right path part of is unbounded =
      let none : is_none (bounds_at m part of) ≡ true = grind (arith) in
      let all : has_bounded_arguments m part of ≡ true = grind (arith) in
      let part_formed = sym (is_form_form part) ∙ formed_part formed path part (Some of) is in
      let count : has_right_count (out-Expr part) ≡ true = grind (arith) in
      unbounded_wide m (out-Expr part) of (no_elements _ (λ k among. known _ (find_name m e t path part of is k among)))
      (no_elements _ (λ k among. right _ (find_attribute m e t path part of is k among)))
      (right_argument m part of (λ k among. right _ (find_argument m e t path part (Some of) is k among)) all) count
      (sym (bounds_at_form m part of) ∙ none_there (bounds_at m part of) none)
