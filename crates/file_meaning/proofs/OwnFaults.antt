-- The faults of a value without misformed parts are those of its expression.
use Rattle.std.proofs.Common.{◌≡◌, ℕ, Bool, List, [], ◌∷◌, refl, sym, subst, Some, None, Contains, IsTrue}
use Rattle.std.specs.Prelude.{slice_get, Result, Ok, Err, IfErr, IsErrAnd}
use Rattle.std.proofs.lemmas.Bool.{false≢true}
use Rattle.std.proofs.lemmas.Option.{none-some}
use Rattle.serde_json.specs.Data.{Data}
use Rattle.base_laws.proofs.Elements.{none_contained}
use Rattle.prod_model.specs.First.{IsFirst}
use Rattle.prod_model.specs.declared.model.Model.{Model}
use Rattle.prod_model.specs.declared.expr.Expr.{Expr}
use Rattle.expr_bounds.specs.Forms.{is_form}
use Rattle.file_values.specs.declared.part.Part.{Part}
use Rattle.file_values.specs.declared.fault.Fault.{Fault}
use Rattle.file_values.specs.declared.fault.FaultCode.TheVariants.{Misformed}
use Rattle.file_values.specs.FaultOrder.{IsFaultBefore}
use Rattle.file_values.specs.Forms.{misformed}
use Rattle.file_meaning.specs.Expressions.{expression_of}
use Rattle.file_meaning.specs.Faults.{fault, HasOwnFault}
use Rattle.file_meaning.specs.Faults as faults
use Rattle.file_meaning.specs.Refused.{IsRefusalOfExpr}
use Rattle.file_meaning.specs.declared.refusal.Refusal.{Refusal}
use Rattle.file_meaning.specs.declared.refusal.Refusal.TheVariants as refusal
use Rattle.file_meaning.specs.steps.Judged.{HasFormFault, deep, unknown_name, wrong_whole, wrong_kind, wide, IsRefusalOfForm, IsJudged}
use Rattle.file_meaning.proofs.FormedExpressions.{formed_is_form}
use Rattle.file_meaning.proofs.BoundedExpressions.{no_own_fault}
use Rattle.file_meaning.proofs.MisformedFirst.{first_misformed_is_first}
use Rattle.file_meaning.proofs.JudgedFaults.{same_code_before, told}

-- where the first misformed place is found, the fault there is the first
pub misformed_first : (m : Model) (d : Data) (of : ℕ) (truth : Bool) (place : List Part) → slice_get (misformed d) 0 ≡ Some place
    → IsFirst (HasOwnFault m d of truth) IsFaultBefore (fault Misformed place)
misformed_first m d of truth place is = record { is = faults.of_no_form place refl (first_misformed_is_first d place is).is; none_before = none_before }
  where
    none_before : (y : Fault) → HasOwnFault m d of truth y → ¬ IsFaultBefore y (fault Misformed place)
    none_before y (faults.of_no_form q same among) before =
        (first_misformed_is_first d place is).none_before q among (same_code_before Misformed q place (told y (fault Misformed q) (fault Misformed place) same before))
    none_before y (faults.deep q same has) before = false≢true (subst (λ x. IsFaultBefore x (fault Misformed place)) same before)
    none_before y (faults.unknown_name q same has) before = false≢true (subst (λ x. IsFaultBefore x (fault Misformed place)) same before)
    none_before y (faults.wrong_whole same wrong) before = false≢true (subst (λ x. IsFaultBefore x (fault Misformed place)) same before)
    none_before y (faults.wrong_kind q same has) before = false≢true (subst (λ x. IsFaultBefore x (fault Misformed place)) same before)
    none_before y (faults.wide q same has) before = false≢true (subst (λ x. IsFaultBefore x (fault Misformed place)) same before)

pub no_place : (ps : List (List Part)) → slice_get ps 0 ≡ None → ps ≡ []
no_place [] none = refl
no_place (p ∷ ps) none = absurd (none-some p (sym none))

module _ (m : Model) (d : Data) (of : ℕ) (truth : Bool) (e : Expr) (is : e ≡ expression_of m d (Some of)) (formed : misformed d ≡ []) where
  abbrev own : Expr
  own = expression_of m d (Some of)

  pub own_form : IsTrue (is_form e)
  own_form = subst (λ x. IsTrue (is_form x)) (sym is) (formed_is_form m d (Some of) formed)

  to_own : (f : Fault) → HasFormFault m own of truth f → HasOwnFault m d of truth f
  to_own f (deep q same has) = faults.deep q same has
  to_own f (unknown_name q same has) = faults.unknown_name q same has
  to_own f (wrong_whole same wrong) = faults.wrong_whole same wrong
  to_own f (wrong_kind q same has) = faults.wrong_kind q same has
  to_own f (wide q same has) = faults.wide q same has

  from_own : (f : Fault) → HasOwnFault m d of truth f → HasFormFault m own of truth f
  from_own f (faults.of_no_form place same among) = absurd (none_contained place (subst (λ ps. Contains ps place) formed among))
  from_own f (faults.deep q same has) = deep q same has
  from_own f (faults.unknown_name q same has) = unknown_name q same has
  from_own f (faults.wrong_whole same wrong) = wrong_whole same wrong
  from_own f (faults.wrong_kind q same has) = wrong_kind q same has
  from_own f (faults.wide q same has) = wide q same has

  refusal_own : (r : Refusal) → IsRefusalOfForm m own of truth r → IsRefusalOfExpr m d of truth r
  refusal_own (refusal.Fault f) first = record { is = to_own f first.is; none_before = λ y has. first.none_before y (from_own y has) }
  refusal_own (refusal.Memory a) first = tt

  pub refusal_is_own : (r : Refusal) → IsRefusalOfForm m e of truth r → IsRefusalOfExpr m d of truth r
  refusal_is_own r refused = refusal_own r (subst (λ x. IsRefusalOfForm m x of truth r) is refused)

  pub judged_faultless : IsJudged m e of truth → (f : Fault) → HasOwnFault m d of truth f → ⊥
  judged_faultless judged f has = no_own_fault m d of truth formed (subst (λ x. IsJudged m x of truth) is judged) f has

-- a refusal that is handed on
pub refusal_same : {X : Type 0} (r : Result X Refusal) (e : Refusal) (P : Refusal → Type 0) → IsErrAnd r (λ f. f ≡ e) → P e → IfErr r P
refusal_same (Ok x) e P same is = tt
refusal_same (Err f) e P same is = subst P (sym same) is
