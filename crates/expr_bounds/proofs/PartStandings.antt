-- How the parts of an expression stand, so that their faults are faults of the whole.
use Rattle.std.proofs.Common.{◌≡◌, ℕ, zero, suc, ◌+◌, ◌-◌, ◌≤◌, ◌∙◌, sym, ap, subst, refl, List, [], ◌∷◌, ◌++◌, length, Option, Some, None, unwrap_or, append_assoc, length-append, inl, inr, arith}
use Rattle.std.specs.Option.{option_and_then}
use Rattle.std.proofs.lemmas.Bool.{cases_lt}
use Rattle.prod_model.specs.declared.model.Model.{Model}
use Rattle.prod_model.specs.declared.expr.Expr.{Expr}
use Rattle.prod_model.specs.declared.expr.Expr.TheViews.{out-Expr}
use Rattle.prod_model.specs.Limits.{most_nesting}
use Rattle.expr_bounds.specs.Parts.{IsPart, whole, argument, type_of_arguments}
use Rattle.expr_bounds.specs.steps.Search.{levels_below, whole_at, standing_below, HasFaultAt, inner}
use Rattle.expr_bounds.specs.declared.fault_kind.FaultKind.{FaultKind}
use Rattle.expr_bounds.specs.declared.standing.Standing.{Standing}
use Rattle.expr_bounds.proofs.ArgumentLaws.{argument_index}

-- the levels left after so many steps
abbrev pub levels_after : ℕ → Option ℕ
levels_after zero = Some most_nesting
levels_after (suc n) = option_and_then levels_below (levels_after n)

pub levels_left : (n : ℕ) → n ≤ 16 → levels_after n ≡ Some (16 - n)
levels_left zero few = refl
levels_left (suc n) few =
    let more : 16 - n ≡ suc (16 - suc n) = omega arith in
    ap (option_and_then levels_below) (levels_left n (omega arith) ∙ ap (λ k. Some k) more)

levels_gone : (k : ℕ) → levels_after (17 + k) ≡ None
levels_gone zero = refl
levels_gone (suc k) = let e : 17 + suc k ≡ suc (17 + k) = omega arith in ap levels_after e ∙ ap (option_and_then levels_below) (levels_gone k)

pub no_levels : (n : ℕ) → levels_after n ≡ Some 0 → n ≡ 16
no_levels n none = elim (cases_lt 16 n) [
  | inr few ↦ (let left = sym (levels_left n few) ∙ none in let e : 16 - n ≡ 0 = ap (λ o. unwrap_or o 0) left in omega arith)
  | inl many ↦ (let k = n - 17 in let e : n ≡ 17 + (n - 17) = omega arith in let gone = sym none ∙ ap levels_after e ∙ levels_gone (n - 17) in cc)
]

pub length_step : (path : List ℕ) (k : ℕ) → length (path ++ k ∷ []) ≡ suc (length path)
length_step path k = omega (arith, length-append path (k ∷ []))

module _ (m : Model) (e : Expr) (t : ℕ) where
  -- how a part stands, so that its faults are faults of the whole
  pub record Stands (fault_kind : FaultKind) (path : List ℕ) (part : Expr) (of : Option ℕ) : Type 0 where
    pub standing : Standing
    pub levels : standing.levels ≡ levels_after (length path)
    pub at : standing.at ≡ of
    pub lifts : (rest : List ℕ) → HasFaultAt m fault_kind part standing rest → HasFaultAt m fault_kind e (whole_at t) (path ++ rest)

  pub stands : (fault_kind : FaultKind) (path : List ℕ) (part : Expr) (of : Option ℕ) → IsPart m e t path part of → Stands fault_kind path part of
  stands fault_kind path part of whole = record { standing = whole_at t; levels = refl; at = refl; lifts = λ rest has. has }
  stands fault_kind path part of (argument path' part' of' is k arg among) =
      let above = stands fault_kind path' part' of' is in
      let at = argument_index (out-Expr part') k arg among in
      record {
        standing = standing_below m part' above.standing;
        levels = ap (option_and_then levels_below) above.levels ∙ ap levels_after (sym (length_step path' k));
        at = ap (type_of_arguments m (out-Expr part')) above.at;
        lifts = λ rest has.
            let Here : ℕ → Type 0 = λ j. HasFaultAt m fault_kind part' above.standing (j ∷ rest) in
            let There : List ℕ → Type 0 = λ p. HasFaultAt m fault_kind e (whole_at t) p in
            subst There (sym (append_assoc path' (k ∷ []) rest)) (above.lifts (k ∷ rest) (subst Here (sym at.2) (inner at.0 arg at.1 has)));
      }
