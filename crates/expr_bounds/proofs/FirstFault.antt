-- The first fault of the first kind that an expression has is its first fault.
use Rattle.std.proofs.Common.{◌≡◌, ℕ, ◌<◌, ◌∙◌, sym, ap, subst, refl, List, ◌∷◌, ◌⊎◌, IsTrue, inl, inr, arith}
use Rattle.prod_model.specs.declared.model.Model.{Model}
use Rattle.prod_model.specs.declared.expr.Expr.{Expr}
use Rattle.prod_model.specs.First.{IsFirst}
use Rattle.expr_bounds.specs.Forms.{is_form}
use Rattle.expr_bounds.specs.Faults.{rank_of, IsFirstExprFault, Faults}
use Rattle.expr_bounds.specs.steps.Search.{whole_at, HasFaultAt, IsPathBefore, fault_of, HasNone, IsFirstOfKind, first, memory}
use Rattle.expr_bounds.specs.declared.fault.ExprFault.{ExprFault}
use Rattle.expr_bounds.specs.declared.fault_kind.FaultKind.{FaultKind}
use Rattle.expr_bounds.specs.declared.fault_kind.FaultKind.TheVariants.{Deep, UnknownName, WrongKind, Wide}
use Rattle.expr_bounds.proofs.PathOrder.{not_before_same, not_before_greater}
use Rattle.expr_bounds.proofs.FaultsFound.{OnlyWideUnbounded, found, fault_of_whole}
use Rattle.expr_bounds.proofs.WideParts.{only_wide_unbounded}

abbrev pub rank : FaultKind → ℕ
rank Deep = 0
rank UnknownName = 1
rank WrongKind = 2
rank Wide = 3

rank_fault : (k : FaultKind) (path : List ℕ) → rank_of (fault_of k path) ≡ rank k ∷ path
rank_fault Deep path = refl
rank_fault UnknownName path = refl
rank_fault WrongKind path = refl
rank_fault Wide path = refl

-- the kind of the first fault, or one after it
at_or_after : (j k : FaultKind) → (j ≡ k) ⊎ ((rank k < rank j) ⊎ (rank j < rank k))
at_or_after Deep Deep = inl refl
at_or_after Deep UnknownName = inr (inr (omega arith))
at_or_after Deep WrongKind = inr (inr (omega arith))
at_or_after Deep Wide = inr (inr (omega arith))
at_or_after UnknownName Deep = inr (inl (omega arith))
at_or_after UnknownName UnknownName = inl refl
at_or_after UnknownName WrongKind = inr (inr (omega arith))
at_or_after UnknownName Wide = inr (inr (omega arith))
at_or_after WrongKind Deep = inr (inl (omega arith))
at_or_after WrongKind UnknownName = inr (inl (omega arith))
at_or_after WrongKind WrongKind = inl refl
at_or_after WrongKind Wide = inr (inr (omega arith))
at_or_after Wide Deep = inr (inl (omega arith))
at_or_after Wide UnknownName = inr (inl (omega arith))
at_or_after Wide WrongKind = inr (inl (omega arith))
at_or_after Wide Wide = inl refl

module _ (m : Model) (e : Expr) (t : ℕ) where
  -- there is no fault of a kind before this one
  abbrev pub NoneOfKindsBefore : ℕ → Type 0
  NoneOfKindsBefore n = (j : FaultKind) → rank j < n → (path : List ℕ) → ¬ HasFaultAt m j e (whole_at t) path

  first_of_kinds : (k : FaultKind) (path : List ℕ) → NoneOfKindsBefore (rank k) → IsFirst (HasFaultAt m k e (whole_at t)) IsPathBefore path
      → (j : FaultKind) (other : List ℕ) → HasFaultAt m j e (whole_at t) other → ¬ IsPathBefore (rank j ∷ other) (rank k ∷ path)
  first_of_kinds k path none least j other has = elim (at_or_after j k) [
    | inl is ↦ (let Has : FaultKind → Type 0 = λ x. HasFaultAt m x e (whole_at t) other in
        let NotBefore : FaultKind → Type 0 = λ x. ¬ IsPathBefore (rank x ∷ other) (rank k ∷ path) in
        subst NotBefore (sym is) (not_before_same (rank k) other path (least.none_before other (subst Has is has))))
    | inr (inl after) ↦ not_before_greater (rank j) (rank k) other path after
    | inr (inr before) ↦ absurd (none j before other has)
  ]

  -- where the search for wide parts comes to, no name is unknown and no kind is wrong
  only_wide : IsTrue (is_form e) → (k : FaultKind) → NoneOfKindsBefore (rank k) → OnlyWideUnbounded m e t k
  only_wide formed k none wide =
      let third : rank k ≡ 3 = ap rank wide in
      only_wide_unbounded m e t formed (none UnknownName (omega (arith, third))) (none WrongKind (omega (arith, third)))

  pub first_fault : IsTrue (is_form e) → (k : FaultKind) (path : List ℕ) → NoneOfKindsBefore (rank k) → IsFirst (HasFaultAt m k e (whole_at t)) IsPathBefore path
      → IsFirstExprFault m e t (fault_of k path)
  first_fault formed k path none least = record {
    is = fault_of_whole m e t k (only_wide formed k none) path least.is;
    none_before = λ other has before.
        let f = found m e t other has in
        let Before : List ℕ → Type 0 = λ r. IsPathBefore r (rank_of (fault_of k path)) in
        let Before' : List ℕ → Type 0 = λ r. IsPathBefore (rank f.fault_kind ∷ f.path) r in
        first_of_kinds k path none least f.fault_kind f.path f.has
        (subst Before' (rank_fault k path) (subst Before (ap rank_of f.is ∙ rank_fault f.fault_kind f.path) before));
  }

  pub first_faults : IsTrue (is_form e) → (k : FaultKind) (path : List ℕ) → NoneOfKindsBefore (rank k) → IsFirst (HasFaultAt m k e (whole_at t)) IsPathBefore path → Faults m e t (fault_of k path)
  first_faults formed Deep path none least = first_fault formed Deep path none least
  first_faults formed UnknownName path none least = first_fault formed UnknownName path none least
  first_faults formed WrongKind path none least = first_fault formed WrongKind path none least
  first_faults formed Wide path none least = first_fault formed Wide path none least

  -- the first fault of a kind is the first fault, if there is none of a kind before
  pub faults_of_kind : IsTrue (is_form e) → (k : FaultKind) → NoneOfKindsBefore (rank k) → (f : ExprFault) → IsFirstOfKind m k e t f → Faults m e t f
  faults_of_kind formed k none f (first path is same) = let Says : ExprFault → Type 0 = λ x. Faults m e t x in subst Says (sym same) (first_faults formed k path none is)
  faults_of_kind formed k none f (memory same) = let Says : ExprFault → Type 0 = λ x. Faults m e t x in subst Says (sym same) tt

  pub none_before_deep : NoneOfKindsBefore 0
  none_before_deep j before path has = omega arith

  pub none_before_name : HasNone m Deep e t → NoneOfKindsBefore 1
  none_before_name deep Deep before path has = deep.none path has
  none_before_name deep UnknownName before path has = omega arith
  none_before_name deep WrongKind before path has = omega arith
  none_before_name deep Wide before path has = omega arith

  pub none_before_kind : HasNone m Deep e t → HasNone m UnknownName e t → NoneOfKindsBefore 2
  none_before_kind deep name Deep before path has = deep.none path has
  none_before_kind deep name UnknownName before path has = name.none path has
  none_before_kind deep name WrongKind before path has = omega arith
  none_before_kind deep name Wide before path has = omega arith

  pub none_before_wide : HasNone m Deep e t → HasNone m UnknownName e t → HasNone m WrongKind e t → NoneOfKindsBefore 3
  none_before_wide deep name kind Deep before path has = deep.none path has
  none_before_wide deep name kind UnknownName before path has = name.none path has
  none_before_wide deep name kind WrongKind before path has = kind.none path has
  none_before_wide deep name kind Wide before path has = omega arith
