-- What an expression is that lacks faults of some kinds.
use Rattle.std.proofs.Common.{◌≡◌, ℕ, zero, suc, ◌≤◌, ◌∙◌, sym, ap, subst, refl, true, false, List, [], ◌∷◌, Option, Some, None, Contains, arith}
use Rattle.std.specs.Prelude.{is_some, is_none}
use Rattle.std.specs.Option.{option_map_or, option_and_then, option_map}
use Rattle.prod_model.specs.declared.model.Model.{Model}
use Rattle.prod_model.specs.declared.model.PortAt.{PortAt}
use Rattle.prod_model.specs.declared.expr.Expr.{Expr}
use Rattle.prod_model.specs.declared.expr.Expr.TheOpen.{Expr-F, All, Any}
use Rattle.prod_model.specs.declared.expr.Expr.TheViews.{out-Expr}
use Rattle.prod_model.specs.Limits.{most_nesting}
use Rattle.prod_model.specs.Nesting.{nesting}
use Rattle.prod_model.specs.Taxonomy.{declared_port_of}
use Rattle.prod_model.specs.ExprBounds.{bounds_at}
use Rattle.expr_bounds.specs.steps.Arguments.{argument_list}
use Rattle.expr_bounds.specs.Parts.{type_of_arguments}
use Rattle.expr_bounds.specs.Faults.{place_unless, unknown_names}
use Rattle.expr_bounds.specs.steps.Search.{levels_below, whole_at, standing_below, is_too_deep, is_innermost_unbounded, has_bounded_arguments, places, HasFaultAt, own, inner}
use Rattle.expr_bounds.specs.declared.fault_kind.FaultKind.TheVariants.{Deep, UnknownName, Wide}
use Rattle.expr_bounds.specs.declared.standing.Standing.{Standing}
use Rattle.expr_bounds.proofs.ArgumentLaws.{nesting_argument, nesting_within, nesting_some}
use Rattle.expr_bounds.proofs.Elements.{contains_places, contains_whole, contains_unless}
use Rattle.base_laws.proofs.Tests.{list_all_from}

-- ---- without deep parts

nesting_levels : (m : Model) (n : ℕ) (e : Expr) (s : Standing) → s.levels ≡ Some n → ((path : List ℕ) → ¬ HasFaultAt m Deep e s path) → nesting e ≤ n
nesting_levels m zero e s levels none = absurd (none [] (own (contains_whole (is_too_deep s.levels) (ap is_too_deep levels))))
nesting_levels m (suc n) e s levels none =
    nesting_within n e (λ i arg found. nesting_levels m n arg (standing_below m e s) (ap (option_and_then levels_below) levels)
    (λ path has. none _ (inner i arg found has)))

-- an expression without deep parts nests up to the limit
pub nesting_faultless : (m : Model) (e : Expr) (t : ℕ) → ((path : List ℕ) → ¬ HasFaultAt m Deep e (whole_at t) path) → nesting e ≤ most_nesting
nesting_faultless m e t none = nesting_levels m 16 e (whole_at t) refl none

-- ---- without unknown names and wide parts

port_known : (o : Option PortAt) → ((k : ℕ) → ¬ Contains (place_unless (is_some o) 1) k) → (u : ℕ) × (option_map (λ q. q.target) o ≡ Some u)
port_known None none = absurd (none 1 (contains_unless false 1 refl))
port_known (Some q) none = (q.target, refl)

type_known : (m : Model) (f : Expr-F Expr) (t : ℕ) → ((k : ℕ) → ¬ Contains (unknown_names m f t) k) → (u : ℕ) × (type_of_arguments m f (Some t) ≡ Some u)
type_known m (All p e) t none = port_known (declared_port_of m t p) none
type_known m (Any p e) t none = port_known (declared_port_of m t p) none
type_known m form t none = (t, refl)

some_unless_none : {X : Type 0} (o : Option X) → ¬ (is_none o ≡ true) → is_some o ≡ true
some_unless_none None not_none = absurd (not_none refl)
some_unless_none (Some x) not_none = refl

bounded_within : (m : Model) (n : ℕ) (e : Expr) (t : ℕ) (s : Standing) → nesting e ≤ n → s.at ≡ Some t
    → ((path : List ℕ) → ¬ HasFaultAt m UnknownName e s path) → ((path : List ℕ) → ¬ HasFaultAt m Wide e s path) → is_some (bounds_at m e t) ≡ true
bounded_within m zero e t s within at known narrow = absurd (omega (arith, nesting_some e))
bounded_within m (suc n) e t s within at known narrow =
    let Among : Option ℕ → ℕ → Type 0 = λ o k. Contains (places (option_map_or (unknown_names m (out-Expr e)) o [])) (k ∷ []) in
    let none = λ (k : ℕ) (among : Contains (unknown_names m (out-Expr e) t) k).
    let At : Option ℕ → Type 0 = λ o. Among o k in
    known (k ∷ []) (own (subst At (sym at) (contains_places (unknown_names m (out-Expr e) t) k among))) in
    let type = type_known m (out-Expr e) t none in
    let all : has_bounded_arguments m e t ≡ true =
    list_all_from (λ arg. option_map_or (λ u. is_some (bounds_at m arg u)) (type_of_arguments m (out-Expr e) (Some t)) false) (argument_list (out-Expr e))
    (λ i arg found. ap (λ o. option_map_or (λ u. is_some (bounds_at m arg u)) o false) type.1
    ∙ bounded_within m n arg type.0 (standing_below m e s) (omega (arith, nesting_argument e i arg found)) (ap (type_of_arguments m (out-Expr e)) at ∙ type.1)
    (λ path has. known _ (inner i arg found has)) (λ path has. narrow _ (inner i arg found has))) in
    some_unless_none (bounds_at m e t) (λ unbounded.
    let wide : is_innermost_unbounded m e t ≡ true = grind (arith) in
    narrow [] (own (contains_whole (option_map_or (is_innermost_unbounded m e) s.at false) (ap (λ o. option_map_or (is_innermost_unbounded m e) o false) at ∙ wide))))

-- an expression without unknown names and wide parts has bounds
pub bounded_faultless : (m : Model) (e : Expr) (t : ℕ) → ((path : List ℕ) → ¬ HasFaultAt m UnknownName e (whole_at t) path)
    → ((path : List ℕ) → ¬ HasFaultAt m Wide e (whole_at t) path) → is_some (bounds_at m e t) ≡ true
bounded_faultless m e t known narrow = bounded_within m (nesting e) e t (whole_at t) (omega arith) refl known narrow
