-- The search for the first fault of a kind.
use Rattle.std.specs.Prelude.{◌≡◌, ℕ, ◌+◌, zero, suc, Bool, false, not, ◌&&◌, ◌==◌, IsTrue, List, [], ◌∷◌, ◌++◌, map, if◌then◌else◌, is_some, is_none, Some, None, Contains}
use Rattle.std.specs.declared.option.Option.{Option}
use Rattle.std.specs.Option.{option_map_or, option_and_then}
use Rattle.std.specs.List.{list_all}
use Rattle.std.specs.Ordering.{nat_cmp, is_lt}
use Rattle.std.specs.Cmp.Lexicographic.{slice_cmp}
use Rattle.base_laws.specs.Places.{IsAt}
use Rattle.prod_model.specs.declared.model.Model.{Model}
use Rattle.prod_model.specs.declared.expr.Expr.{Expr}
use Rattle.prod_model.specs.declared.expr.Expr.TheOpen.{Expr-F}
use Rattle.prod_model.specs.declared.expr.Expr.TheViews.{out-Expr}
use Rattle.prod_model.specs.First.{IsFirst}
use Rattle.prod_model.specs.Limits.{most_nesting}
use Rattle.prod_model.specs.ExprBounds.{bounds_at}
use Rattle.expr_bounds.specs.steps.Arguments.{argument_list, first_place}
use Rattle.expr_bounds.specs.Parts.{type_of_arguments}
use Rattle.expr_bounds.specs.Faults.{unknown_names, wrong_attributes, is_truth_form, needs_truths, same_truth}
use Rattle.expr_bounds.specs.declared.fault.ExprFault.{ExprFault}
use Rattle.expr_bounds.specs.declared.fault.ExprFault.TheVariants as fault
use Rattle.expr_bounds.specs.declared.fault_kind.FaultKind.{FaultKind}
use Rattle.expr_bounds.specs.declared.fault_kind.FaultKind.TheVariants.{Deep, UnknownName, WrongKind, Wide}
use Rattle.expr_bounds.specs.declared.standing.Standing.{Standing}

-- ---- where parts stand

-- the levels left below a part, and nothing below the first part that is too deep
abbrev pub levels_below : ℕ → Option ℕ
levels_below zero = None
levels_below (suc levels) = Some levels

-- where the whole expression stands
abbrev pub whole_at : ℕ → Standing
whole_at t = record { levels = Some most_nesting; at = Some t; needs_truth = None }

-- where the arguments of a part stand
abbrev pub standing_below : Model → Expr → Standing → Standing
standing_below m e s = record {
  levels = option_and_then levels_below s.levels;
  at = type_of_arguments m (out-Expr e) s.at;
  needs_truth = Some (needs_truths (out-Expr e));
}

-- ---- the faults of a part itself, as paths from it, ascending

-- the path to the part itself, where it is wrong
abbrev pub whole_if : Bool → List (List ℕ)
whole_if wrong = if wrong then [] ∷ [] else []

-- the paths to arguments at these places
abbrev pub places : List ℕ → List (List ℕ)
places ks = map (λ k. k ∷ []) ks

-- no level is left for the part
abbrev pub is_too_deep : Option ℕ → Bool
is_too_deep levels = option_map_or (λ n. n == 0) levels false

-- the part is a number where a truth is needed, or the reverse
abbrev pub is_wrong_kind : Option Bool → Expr-F Expr → Bool
is_wrong_kind needed form =
    option_map_or (λ truth. not (same_truth truth (is_truth_form form))) needed false

-- all arguments of the part have bounds
abbrev pub has_bounded_arguments : Model → Expr → ℕ → Bool
has_bounded_arguments m e t = list_all
    (λ arg. option_map_or (λ u. is_some (bounds_at m arg u))
    (type_of_arguments m (out-Expr e) (Some t)) false)
    (argument_list (out-Expr e))

-- The part has no bounds, and all its arguments have. It is wide, if no name is unknown and no kind
-- is wrong.
abbrev pub is_innermost_unbounded : Model → Expr → ℕ → Bool
is_innermost_unbounded m e t = is_none (bounds_at m e t) && has_bounded_arguments m e t

-- the faults of a kind that a part has itself
abbrev pub own_faults : Model → FaultKind → Expr → Standing → List (List ℕ)
own_faults m Deep e s = whole_if (is_too_deep s.levels)
own_faults m UnknownName e s = places (option_map_or (unknown_names m (out-Expr e)) s.at [])
own_faults m WrongKind e s =
    whole_if (is_wrong_kind s.needs_truth (out-Expr e))
    ++ places (option_map_or (wrong_attributes m (out-Expr e)) s.at [])
own_faults m Wide e s = whole_if (option_map_or (is_innermost_unbounded m e) s.at false)

-- ---- the faults of an expression

-- The expression that stands so has a fault of the kind at this path: its own, or one of an
-- argument.
pub data HasFaultAt (m : Model) (fault_kind : FaultKind) : Expr → Standing → List ℕ → Type 0 where
  own : {e : Expr} {s : Standing} {path : List ℕ}
      → Contains (own_faults m fault_kind e s) path → HasFaultAt m fault_kind e s path
  inner : {e : Expr} {s : Standing} (i : ℕ) (arg : Expr)
      → IsAt (argument_list (out-Expr e)) i arg
      → {path : List ℕ} → HasFaultAt m fault_kind arg (standing_below m e s) path
      → HasFaultAt m fault_kind e s ((first_place (out-Expr e) + i) ∷ path)

-- a part comes before what is in it, and arguments ascend
abbrev pub IsPathBefore : List ℕ → List ℕ → Type 0
IsPathBefore p q = IsTrue (is_lt (slice_cmp nat_cmp p q))

-- the first of the paths, or nothing where there is none
abbrev pub Finds : (List ℕ → Type 0) → Option (List ℕ) → Type 0
Finds Is None = (path : List ℕ) → ¬ Is path
Finds Is (Some path) = IsFirst Is IsPathBefore path

-- a fault of a kind
abbrev pub fault_of : FaultKind → List ℕ → ExprFault
fault_of Deep path = fault.Deep path
fault_of UnknownName path = fault.UnknownName path
fault_of WrongKind path = fault.WrongKind path
fault_of Wide path = fault.Wide path

-- the expression has no fault of the kind
pub record HasNone (m : Model) (fault_kind : FaultKind) (e : Expr) (t : ℕ) : Type 0 where
  pub none : (path : List ℕ) → ¬ HasFaultAt m fault_kind e (whole_at t) path

-- the expression's first fault of the kind, or want of memory
pub data IsFirstOfKind (m : Model) (fault_kind : FaultKind) (e : Expr) (t : ℕ) (f : ExprFault)
    : Type 0 where
  first : (path : List ℕ) → IsFirst (HasFaultAt m fault_kind e (whole_at t)) IsPathBefore path
      → f ≡ fault_of fault_kind path → IsFirstOfKind m fault_kind e t f
  memory : f ≡ fault.Memory → IsFirstOfKind m fault_kind e t f
