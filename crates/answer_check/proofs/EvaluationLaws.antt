-- An expression is what its form is, and it can be computed where it has bounds.
use Rattle.std.proofs.Common.{◌≡◌, ℕ, ℤ, pos, ◌*ℤ◌, ◌∙◌, ap, sym, subst, List, [], ◌∷◌, map, Some, refl}
use Rattle.std.specs.Prelude.{IsTrue}
use Rattle.std.specs.Int.{int_min, int_max}
use Rattle.std.specs.Option.{option_and_then}
use Rattle.prod_model.specs.declared.model.Model.{Model}
use Rattle.prod_model.specs.declared.expr.Expr.{Expr}
use Rattle.prod_model.specs.declared.expr.Expr.TheOpen.{Expr-F, Num, Attr, Count, CountOf, Sum, Total, Number, Add, Sub, Times, Cmp, Is, Kind, And, Or, Not, If, All, Any}
use Rattle.prod_model.specs.declared.expr.Expr.TheViews.{out-Expr, roll-Expr, roll-out-Expr}
use Rattle.prod_model.specs.declared.expr_bounds.Bounds.{Bounds}
use Rattle.prod_model.specs.Taxonomy.{attribute_of, declared_port_of}
use Rattle.prod_model.specs.ExprBounds.{bounds_at, sum_of_some, truth_of, of_range, has_arguments}
use Rattle.prod_model.specs.steps.ExprBounds.{sum_onto}
use Rattle.prod_model.specs.Valid.{IsDeclared}
use Rattle.prod_model.proofs.ExprBoundsLaws.{bounds_at_Sum, bounds_at_Total, bounds_at_Add_onto, bounds_at_Sub, bounds_at_Times, bounds_at_Cmp, bounds_at_And, bounds_at_Or, bounds_at_Not, bounds_at_If, bounds_at_All, bounds_at_Any}
use Rattle.config_value.specs.declared.configuration.Instance.{Instance}
use Rattle.config_value.specs.declared.found.Found.TheVariants as found
use Rattle.config_value.specs.BoundsHold.{IsWithinBounds}
use Rattle.config_value.specs.Shaped.{is_shaped}
use Rattle.config_value.specs.Value.{value_at, links_at_instance}
use Rattle.config_value.proofs.ShapedSentences.{shaped_sentences}
use Rattle.config_value.proofs.ValueLaws.{value_at_Num, value_at_Attr, value_at_Count, value_at_CountOf, value_at_Sum, value_at_Total, value_at_Number, value_at_Add, value_at_Sub, value_at_Times, value_at_Cmp, value_at_Is, value_at_Kind, value_at_And, value_at_Or, value_at_Not, value_at_If, value_at_All, value_at_Any}
use Rattle.answer_check.specs.Faultless.{HasBoundsAt}
use Rattle.answer_check.specs.steps.Evaluable.{form_value, IsSmall, IsEvaluable, HasBoundsAtEach}
use Rattle.config_value.proofs.BoundsLaws.{bounds_hold}
use Rattle.config_value.proofs.HeldLaws.{held_links}
use Rattle.config_value.proofs.ToldLaws.{and_then_some, if_some}
use Rattle.answer_check.proofs.BoundsUse.{IsLimited, IsTold, within_small, bounded_limited, of_range_limited, difference_limited, multiple_limited, sum_limited, difference_parts, multiple_part, comparison_parts, sum_parts, truth_parts}

-- ---- values

value_at_roll : (m : Model) (c : List Instance) (i : ℕ) (form : Expr-F Expr) → value_at m c i (roll-Expr form) ≡ form_value m c i form
value_at_roll m c i (Num n) = value_at_Num m c i n
value_at_roll m c i (Attr a) = value_at_Attr m c i a
value_at_roll m c i (Count p) = value_at_Count m c i p
value_at_roll m c i (CountOf p t) = value_at_CountOf m c i p t
value_at_roll m c i (Sum p a) = value_at_Sum m c i p a
value_at_roll m c i (Total t a) = value_at_Total m c i t a
value_at_roll m c i (Number t) = value_at_Number m c i t
value_at_roll m c i (Add args) = value_at_Add m c i args
value_at_roll m c i (Sub e f) = value_at_Sub m c i e f
value_at_roll m c i (Times k e) = value_at_Times m c i k e
value_at_roll m c i (Cmp r e f) = value_at_Cmp m c i r e f
value_at_roll m c i (Is a w) = value_at_Is m c i a w
value_at_roll m c i (Kind t) = value_at_Kind m c i t
value_at_roll m c i (And args) = value_at_And m c i args
value_at_roll m c i (Or args) = value_at_Or m c i args
value_at_roll m c i (Not e) = value_at_Not m c i e
value_at_roll m c i (If e f) = value_at_If m c i e f
value_at_roll m c i (All p e) = value_at_All m c i p e
value_at_roll m c i (Any p e) = value_at_Any m c i p e

pub value_at_form : (m : Model) (c : List Instance) (i : ℕ) (e : Expr) → value_at m c i e ≡ form_value m c i (out-Expr e)
value_at_form m c i e = ap (value_at m c i) (sym (roll-out-Expr e)) ∙ value_at_roll m c i (out-Expr e)

-- ---- what has bounds can be computed

module _ (m : Model) (c : List Instance) (is : IsDeclared m) (shaped : IsTrue (is_shaped m c)) (i : ℕ) where
  -- the number of an expression whose bounds are within the limits
  small : (e : Expr) (n : ℤ) (h : HasBoundsAt m c i e) → value_at m c i e ≡ found.Number n → IsLimited h.bounds → IsSmall n
  small e n h value limited =
      within_small h.bounds n limited (subst (IsWithinBounds h.bounds) value (bounds_hold m c e i h.kind h.instance h.bounds is shaped h.stands h.under h.told))

  -- a part that has bounds at the same type
  part : (e f : Expr) (h : HasBoundsAt m c i e) → IsTold (bounds_at m f h.kind) → HasBoundsAt m c i f
  part e f h told = record { instance = h.instance; stands = h.stands; kind = h.kind; under = h.under; bounds = told.0; told = told.1 }

  sum_some_limited : (l h : ℕ) (a b : ℤ) (bounds : Bounds) → sum_of_some l h a b ≡ Some bounds → IsLimited bounds
  sum_some_limited l h a b bounds told = bounded_limited (int_min (pos l *ℤ a) (pos h *ℤ a)) (int_max (pos l *ℤ b) (pos h *ℤ b)) bounds told

  at_links : (p : ℕ) (e f : Expr) (h : HasBoundsAt m c i f) → option_and_then (λ q. truth_of (bounds_at m e q.target ∷ [])) (declared_port_of m h.kind p) ≡ Some h.bounds
      → HasBoundsAtEach m c (links_at_instance m c p i) e
  at_links p e f h told k j to =
      let port = and_then_some (λ q. truth_of (bounds_at m e q.target ∷ [])) (declared_port_of m h.kind p) h.bounds told in
      let links = held_links m c is ((shaped_sentences m c).0 shaped) i h.instance h.stands h.kind h.under p port.0 port.1 in
      let linked = links.each k j to in
      let inner = truth_parts (λ x. bounds_at m x port.0.target) (e ∷ []) h.bounds port.2 0 e refl in
      record { instance = linked.instance; stands = linked.there; kind = port.0.target; under = linked.of_type; bounds = inner.0; told = inner.1 }

  evaluable_roll : (form : Expr-F Expr) → HasBoundsAt m c i (roll-Expr form) → IsEvaluable m c i form
  evaluable_roll (Num n) h = tt
  evaluable_roll (Attr a) h = tt
  evaluable_roll (Count p) h = tt
  evaluable_roll (CountOf p t) h = tt
  evaluable_roll (Sum p a) h =
      let told = sym (bounds_at_Sum m h.kind p a) ∙ h.told in
      let port = and_then_some (λ q. option_and_then (of_range (sum_of_some q.low q.high)) (attribute_of m q.target a)) (declared_port_of m h.kind p) h.bounds told in
      let attribute = and_then_some (of_range (sum_of_some port.0.low port.0.high)) (attribute_of m port.0.target a) h.bounds port.2 in
      small (roll-Expr (Sum p a)) _ h (value_at_Sum m c i p a) (of_range_limited (sum_of_some port.0.low port.0.high) (sum_some_limited port.0.low port.0.high) attribute.0 h.bounds attribute.2)
  evaluable_roll (Total t a) h =
      let told = sym (bounds_at_Total m h.kind t a) ∙ h.told in
      let attribute = and_then_some (of_range (sum_of_some 0 m.instances)) (attribute_of m t a) h.bounds told in
      small (roll-Expr (Total t a)) _ h (value_at_Total m c i t a) (of_range_limited (sum_of_some 0 m.instances) (sum_some_limited 0 m.instances) attribute.0 h.bounds attribute.2)
  evaluable_roll (Number t) h = tt
  evaluable_roll (Add args) h =
      let told = if_some (has_arguments args) (sum_onto (pos 0) (pos 0) (map (λ e. bounds_at m e h.kind) args)) h.bounds (sym (bounds_at_Add_onto m h.kind args) ∙ h.told) in (
        λ k e at. part (roll-Expr (Add args)) e h (sum_parts (λ x. bounds_at m x h.kind) (pos 0) (pos 0) args h.bounds told k e at),
        small (roll-Expr (Add args)) _ h (value_at_Add m c i args) (sum_limited (pos 0) (pos 0) (map (λ e. bounds_at m e h.kind) args) h.bounds told),
      )
  evaluable_roll (Sub e f) h =
      let told = sym (bounds_at_Sub m h.kind e f) ∙ h.told in
      let parts = difference_parts (bounds_at m e h.kind) (bounds_at m f h.kind) h.bounds told in (
        part (roll-Expr (Sub e f)) e h parts.0,
        part (roll-Expr (Sub e f)) f h parts.1,
        small (roll-Expr (Sub e f)) _ h (value_at_Sub m c i e f) (difference_limited (bounds_at m e h.kind) (bounds_at m f h.kind) h.bounds told),
      )
  evaluable_roll (Times k e) h =
      let told = sym (bounds_at_Times m h.kind k e) ∙ h.told in (
        part (roll-Expr (Times k e)) e h (multiple_part k (bounds_at m e h.kind) h.bounds told),
        small (roll-Expr (Times k e)) _ h (value_at_Times m c i k e) (multiple_limited k (bounds_at m e h.kind) h.bounds told),
      )
  evaluable_roll (Cmp r e f) h =
      let parts = comparison_parts (bounds_at m e h.kind) (bounds_at m f h.kind) h.bounds (sym (bounds_at_Cmp m h.kind r e f) ∙ h.told) in
      (part (roll-Expr (Cmp r e f)) e h parts.0, part (roll-Expr (Cmp r e f)) f h parts.1)
  evaluable_roll (Is a w) h = tt
  evaluable_roll (Kind t) h = tt
  evaluable_roll (And args) h =
      let told = if_some (has_arguments args) (truth_of (map (λ e. bounds_at m e h.kind) args)) h.bounds (sym (bounds_at_And m h.kind args) ∙ h.told) in
      λ k e at. part (roll-Expr (And args)) e h (truth_parts (λ x. bounds_at m x h.kind) args h.bounds told k e at)
  evaluable_roll (Or args) h =
      let told = if_some (has_arguments args) (truth_of (map (λ e. bounds_at m e h.kind) args)) h.bounds (sym (bounds_at_Or m h.kind args) ∙ h.told) in
      λ k e at. part (roll-Expr (Or args)) e h (truth_parts (λ x. bounds_at m x h.kind) args h.bounds told k e at)
  evaluable_roll (Not e) h =
      part (roll-Expr (Not e)) e h (truth_parts (λ x. bounds_at m x h.kind) (e ∷ []) h.bounds (sym (bounds_at_Not m h.kind e) ∙ h.told) 0 e refl)
  evaluable_roll (If e f) h =
      let told = sym (bounds_at_If m h.kind e f) ∙ h.told in
      let each = truth_parts (λ x. bounds_at m x h.kind) (e ∷ f ∷ []) h.bounds told in
      (part (roll-Expr (If e f)) e h (each 0 e refl), part (roll-Expr (If e f)) f h (each 1 f refl))
  evaluable_roll (All p e) h = at_links p e (roll-Expr (All p e)) h (sym (bounds_at_All m h.kind p e) ∙ h.told)
  evaluable_roll (Any p e) h = at_links p e (roll-Expr (Any p e)) h (sym (bounds_at_Any m h.kind p e) ∙ h.told)

  pub evaluable : (e : Expr) → HasBoundsAt m c i e → IsEvaluable m c i (out-Expr e)
  evaluable e h = evaluable_roll (out-Expr e) (subst (HasBoundsAt m c i) (sym (roll-out-Expr e)) h)
