-- What a search finds in an expression, from its own faults and those of its arguments.
use Rattle.std.proofs.Common.{◌≡◌, ℕ, ◌+◌, ◌<◌, ◌∙◌, sym, ap, subst, List, [], ◌∷◌, length, Some, None, Contains, inl, inr, arith}
use Rattle.std.specs.Prelude.{slice_get}
use Rattle.std.proofs.lemmas.Bool.{cases_order}
use Rattle.std.proofs.lemmas.Option.{slice_get_within}
use Rattle.base_laws.specs.Places.{IsAt}
use Rattle.prod_model.specs.declared.model.Model.{Model}
use Rattle.prod_model.specs.declared.expr.Expr.{Expr}
use Rattle.prod_model.specs.declared.expr.Expr.TheViews.{out-Expr}
use Rattle.prod_model.specs.First.{IsFirst}
use Rattle.expr_bounds.specs.steps.Arguments.{argument_list, first_place}
use Rattle.expr_bounds.specs.steps.Search.{own_faults, standing_below, HasFaultAt, own, inner, IsPathBefore}
use Rattle.expr_bounds.specs.declared.fault_kind.FaultKind.{FaultKind}
use Rattle.expr_bounds.specs.declared.standing.Standing.{Standing}
use Rattle.base_laws.proofs.Elements.{contained_at}
use Rattle.expr_bounds.proofs.PathOrder.{not_before_same, not_before_greater}
use Rattle.expr_bounds.proofs.OwnOrder.{own_ascend, own_before_inner}

-- a list without a first element has none
none_first : {X : Type 0} (xs : List X) (x : X) → slice_get xs 0 ≡ None → ¬ Contains xs x
none_first [] x none among = absurd (omega (arith, among.1))
none_first (y ∷ ys) x none among = cc

module _ (m : Model) (fault_kind : FaultKind) (e : Expr) (s : Standing) where
  -- there is no fault in the arguments before this one
  abbrev pub NoneBefore : ℕ → Type 0
  NoneBefore n = (i : ℕ) (arg : Expr) → i < n → IsAt (argument_list (out-Expr e)) i arg → (path : List ℕ) → ¬ HasFaultAt m fault_kind arg (standing_below m e s) path

  pub finds_none : slice_get (own_faults m fault_kind e s) 0 ≡ None → NoneBefore (length (argument_list (out-Expr e))) → (path : List ℕ) → ¬ HasFaultAt m fault_kind e s path
  finds_none none before path (own among) = none_first (own_faults m fault_kind e s) path none among
  finds_none none before path (inner i arg found {path = rest} has) =
      before i arg (slice_get_within (argument_list (out-Expr e)) i arg found) found rest has

  own_first : (path : List ℕ) → IsAt (own_faults m fault_kind e s) 0 path → (q : List ℕ) → HasFaultAt m fault_kind e s q → ¬ IsPathBefore q path
  own_first path first q (own among) = own_ascend m fault_kind e s path q first among
  own_first path first q (inner i arg found {path = rest} has) =
      own_before_inner m fault_kind e s i arg rest path found (contained_at (own_faults m fault_kind e s) 0 path first)

  pub finds_own : (path : List ℕ) → IsAt (own_faults m fault_kind e s) 0 path → IsFirst (HasFaultAt m fault_kind e s) IsPathBefore path
  finds_own path first = record {
    is = own (contained_at (own_faults m fault_kind e s) 0 path first);
    none_before = own_first path first;
  }

  module _ (n : ℕ) (arg : Expr) (found : IsAt (argument_list (out-Expr e)) n arg) (before : NoneBefore n) where
    same_argument : (i : ℕ) (other : Expr) → i ≡ n → IsAt (argument_list (out-Expr e)) i other → other ≡ arg
    same_argument i other is at = let same : Some other ≡ Some arg = sym at ∙ ap (slice_get (argument_list (out-Expr e))) is ∙ found in cc

    pub none_next : ((path : List ℕ) → ¬ HasFaultAt m fault_kind arg (standing_below m e s) path) → NoneBefore (n + 1)
    none_next none i other within at path has = elim (cases_order i n) [
      | inr (inl below) ↦ before i other below at path has
      | inl is ↦ (let Has : Expr → Type 0 = λ x. HasFaultAt m fault_kind x (standing_below m e s) path in none path (subst Has (same_argument i other is at) has))
      | inr (inr beyond) ↦ absurd (omega arith)
    ]

    inner_first : (path : List ℕ) → slice_get (own_faults m fault_kind e s) 0 ≡ None → IsFirst (HasFaultAt m fault_kind arg (standing_below m e s)) IsPathBefore path
        → (q : List ℕ) → HasFaultAt m fault_kind e s q → ¬ IsPathBefore q ((first_place (out-Expr e) + n) ∷ path)
    inner_first path none first q (own among) = absurd (none_first (own_faults m fault_kind e s) q none among)
    inner_first path none first q (inner i other at {path = rest} has) = elim (cases_order i n) [
      | inr (inl below) ↦ absurd (before i other below at rest has)
      | inl is ↦ (let Has : Expr → Type 0 = λ x. HasFaultAt m fault_kind x (standing_below m e s) rest in
          let NotBefore : ℕ → Type 0 = λ k. ¬ IsPathBefore ((first_place (out-Expr e) + k) ∷ rest) ((first_place (out-Expr e) + n) ∷ path) in
          subst NotBefore (sym is) (not_before_same (first_place (out-Expr e) + n) rest path (first.none_before rest (subst Has (same_argument i other is at) has))))
      | inr (inr beyond) ↦ not_before_greater (first_place (out-Expr e) + i) (first_place (out-Expr e) + n) rest path (omega arith)
    ]

    pub finds_inner : (path : List ℕ) → slice_get (own_faults m fault_kind e s) 0 ≡ None → IsFirst (HasFaultAt m fault_kind arg (standing_below m e s)) IsPathBefore path
        → IsFirst (HasFaultAt m fault_kind e s) IsPathBefore ((first_place (out-Expr e) + n) ∷ path)
    finds_inner path none first = record {
      is = inner n arg found first.is;
      none_before = inner_first path none first;
    }
