-- In a shaped configuration the value of an expression lies within its bounds.
use Rattle.std.proofs.Common.{◌≡◌, ℕ, ◌≤◌, Bool, List, [], ◌∷◌, map, length, Option, Some, sym, ap, ◌∙◌, subst, arith}
use Rattle.std.specs.Prelude.{IsTrue, ℤ, pos}
use Rattle.std.specs.Option.{option_map_or, option_and_then}
use Rattle.std.specs.List.{filter, count_by}
use Rattle.std.proofs.lemmas.Int.{ints}
use Rattle.std.proofs.lemmas.List.{length-map}
use Rattle.std.proofs.lemmas.List.Sums.{count_by-le-length, length-filter}
use Rattle.std.proofs.lemmas.Option.{same_Some}
use Rattle.prod_model.specs.declared.model.Model.{Model}
use Rattle.prod_model.specs.declared.model.AttrAt.{AttrAt}
use Rattle.prod_model.specs.declared.expr_bounds.Bounds.{Bounds}
use Rattle.prod_model.specs.declared.expr_bounds.Bounds.TheVariants as bounds
use Rattle.prod_model.specs.declared.expr.Expr.{Expr, map-Expr}
use Rattle.prod_model.specs.declared.expr.Expr.TheOpen.{Expr-F, Num, Attr, Count, CountOf, Sum, Total, Number, Add, Sub, Times, Cmp, Is, Kind, And, Or, Not, If, All, Any}
use Rattle.prod_model.specs.declared.expr.Expr.TheViews.{roll-Expr}
use Rattle.prod_model.specs.declared.expr.Expr.TheFolds.{ind-Expr}
use Rattle.prod_model.specs.declared.expr.Relation.{Relation}
use Rattle.prod_model.specs.Forest.{is_a, is_type}
use Rattle.prod_model.specs.Taxonomy.{attribute_of, declared_port_of}
use Rattle.prod_model.specs.ExprBounds.{bounds_at, bounded, sum_of_some, truth_of, of_range, has_arguments}
use Rattle.prod_model.specs.steps.ExprBounds.{sum_onto}
use Rattle.prod_model.specs.Valid.{IsDeclared}
use Rattle.prod_model.proofs.ExprBoundsLaws.{bounds_at_Num, bounds_at_Attr, bounds_at_Count, bounds_at_CountOf, bounds_at_Sum, bounds_at_Total, bounds_at_Number, bounds_at_Add_onto, bounds_at_Sub, bounds_at_Times, bounds_at_Cmp, bounds_at_Is, bounds_at_Kind, bounds_at_And, bounds_at_Or, bounds_at_Not, bounds_at_If, bounds_at_All, bounds_at_Any}
use Rattle.config_value.specs.declared.configuration.Instance.{Instance}
use Rattle.config_value.specs.declared.found.Found.{Found}
use Rattle.config_value.specs.declared.found.Found.TheVariants as found
use Rattle.config_value.specs.Value.{value_at, value_of, value_at_instance, links_at_instance, under, is_under}
use Rattle.base_laws.specs.Places.{IsAt}
use Rattle.config_value.specs.ShapedSentences.{IsInstanceUnder, HasShape}
use Rattle.config_value.specs.BoundsHold.{IsWithinBounds, BoundsHold}
use Rattle.config_value.proofs.ShapedSentences.{shaped_sentences}
use Rattle.config_value.proofs.ValueLaws.{value_at_Num, value_at_Attr, value_at_Count, value_at_CountOf, value_at_Sum, value_at_Total, value_at_Number, value_at_Add, value_at_Sub, value_at_Times, value_at_Cmp, value_at_Is, value_at_Kind, value_at_And, value_at_Or, value_at_Not, value_at_If, value_at_All, value_at_Any}
use Rattle.base_laws.proofs.Places.{map_at, filter_at}
use Rattle.config_value.proofs.HeldLaws.{IsInRange, held_value, held_links}
use Rattle.config_value.proofs.ToldLaws.{IsToldOf, and_then_some, map_some, if_some, number_within, value_within, values_within, truth_within, truth_told, comparison_told, multiple_within, difference_within, sum_within}

module _ (m : Model) (c : List Instance) (is : IsDeclared m) (s : HasShape m c) where
  -- at each instance under a type, the value of the expression lies within its bounds at the type
  abbrev pub IsHeld : Expr → Type 0
  IsHeld e = (i t : ℕ) (x : Instance) → IsAt c i x → IsTrue (is_a m x.kind t) → IsToldOf (bounds_at m e t) (value_at m c i e)

  -- what is shown of a form's bounds and value, as they are by their laws, holds
  held_by : (e : Expr) (i t : ℕ) (o : Option Bounds) (v : Found) → bounds_at m e t ≡ o → value_at m c i e ≡ v → IsToldOf o v → IsToldOf (bounds_at m e t) (value_at m c i e)
  held_by e i t o v told value held b is_b = subst (IsWithinBounds b) (sym value) (held b (sym told ∙ is_b))

  -- the values of an attribute at the instances under a type that links lead to
  held_each : (t id : ℕ) (a : AttrAt) (links : List ℕ) → attribute_of m t id ≡ Some a → ((k j : ℕ) → IsAt links k j → IsInstanceUnder m c t j)
      → (k : ℕ) (n : ℤ) → IsAt (map (value_at_instance m c id) links) k n → IsInRange a.domain n
  held_each t id a links found each k n there =
      let link = map_at (value_at_instance m c id) links k n there in
      let y = each k link.0 link.1 in
      subst (IsInRange a.domain) link.2 (held_value m c is s link.0 y.instance y.there t y.of_type id a found)

  -- the values of an attribute at all instances under a type
  held_all : (t id : ℕ) (a : AttrAt) → attribute_of m t id ≡ Some a
      → (k : ℕ) (n : ℤ) → IsAt (map (λ x. value_of m x id) (filter (under m t) c)) k n → IsInRange a.domain n
  held_all t id a found k n there =
      let instance = map_at (λ x. value_of m x id) (filter (under m t) c) k n there in
      let y = instance.0 in
      let at = filter_at (under m t) c k y instance.1 in
      let value : value_at_instance m c id at.0 ≡ value_of m y id = ap (λ o. option_map_or (λ x. value_of m x id) o (pos 0)) at.1 in
      subst (IsInRange a.domain) (value ∙ instance.2) (held_value m c is s at.0 y at.1 t at.2 id a found)

  -- no more instances are under a type than the model allows
  few_under : (t : ℕ) → count_by (under m t) c ≤ m.instances
  few_under t = omega (arith, count_by-le-length (under m t) c, s.size.1)

  -- a number is within its own bounds
  held_num : (n : ℤ) → IsHeld (roll-Expr (Num n))
  held_num n i t x at below = held_by (roll-Expr (Num n)) i t (bounded n n) (found.Number n) (bounds_at_Num m t n) (value_at_Num m c i n) (λ b told.
      number_within n n n b (omega (arith, ints), omega (arith, ints)) told)

  -- the value of an attribute is in its range
  held_attr : (a : ℕ) → IsHeld (roll-Expr (Attr a))
  held_attr a i t x at below = held_by (roll-Expr (Attr a)) i t _ _ (bounds_at_Attr m t a) (value_at_Attr m c i a) (λ b told.
      let attribute = and_then_some (of_range bounded) (attribute_of m t a) b told in
      value_within attribute.0 (value_at_instance m c a i) b (held_value m c is s i x at t below a attribute.0 attribute.1) attribute.2)

  -- the number of a port's links is within its pair
  held_count : (p : ℕ) → IsHeld (roll-Expr (Count p))
  held_count p i t x at below = held_by (roll-Expr (Count p)) i t _ _ (bounds_at_Count m t p) (value_at_Count m c i p) (λ b told.
      let port = map_some (λ q. bounds.Number (pos q.low) (pos q.high)) (declared_port_of m t p) b told in
      let links = held_links m c is s i x at t below p port.0 port.1 in
      subst (λ b. IsWithinBounds b (found.Number (pos (length (links_at_instance m c p i))))) port.2
      (omega (arith, ints, links.number.0), omega (arith, ints, links.number.1)))

  -- no more of a port's links lead to a type than the port allows
  held_count_of : (p u : ℕ) → IsHeld (roll-Expr (CountOf p u))
  held_count_of p u i t x at below = held_by (roll-Expr (CountOf p u)) i t _ _ (bounds_at_CountOf m t p u) (value_at_CountOf m c i p u) (λ b told.
      let port = map_some (λ q. bounds.Number (pos 0) (pos q.high)) (declared_port_of m t p) b (if_some (is_type m u) _ b told) in
      let links = held_links m c is s i x at t below p port.0 port.1 in
      let few = count_by-le-length (is_under m c u) (links_at_instance m c p i) in
      subst (λ b. IsWithinBounds b (found.Number (pos (count_by (is_under m c u) (links_at_instance m c p i))))) port.2
      (omega (arith, ints), omega (arith, ints, links.number.1, few)))

  -- the sum of an attribute's values over a port's links
  held_sum : (p a : ℕ) → IsHeld (roll-Expr (Sum p a))
  held_sum p a i t x at below = held_by (roll-Expr (Sum p a)) i t _ _ (bounds_at_Sum m t p a) (value_at_Sum m c i p a) (λ b told.
      let port = and_then_some (λ q. option_and_then (of_range (sum_of_some q.low q.high)) (attribute_of m q.target a)) (declared_port_of m t p) b told in
      let q = port.0 in
      let attribute = and_then_some (of_range (sum_of_some q.low q.high)) (attribute_of m q.target a) b port.2 in
      let links = held_links m c is s i x at t below p q port.1 in
      let values = map (value_at_instance m c a) (links_at_instance m c p i) in
      let many : length values ≡ length (links_at_instance m c p i) = length-map (links_at_instance m c p i) (value_at_instance m c a) in
      values_within q.low q.high attribute.0 values b (omega (arith, many, links.number.0)) (omega (arith, many, links.number.1))
      (held_each q.target a attribute.0 (links_at_instance m c p i) attribute.1 links.each) attribute.2)

  -- the sum of an attribute's values over all instances under a type
  held_total : (u a : ℕ) → IsHeld (roll-Expr (Total u a))
  held_total u a i t x at below = held_by (roll-Expr (Total u a)) i t _ _ (bounds_at_Total m t u a) (value_at_Total m c i u a) (λ b told.
      let attribute = and_then_some (of_range (sum_of_some 0 m.instances)) (attribute_of m u a) b told in
      let values = map (λ x. value_of m x a) (filter (under m u) c) in
      let many : length values ≡ count_by (under m u) c = length-map (filter (under m u) c) (λ x. value_of m x a) ∙ length-filter (under m u) c in
      values_within 0 m.instances attribute.0 values b (omega arith) (omega (arith, many, few_under u)) (held_all u a attribute.0 attribute.1) attribute.2)

  -- the number of instances under a type
  held_number : (u : ℕ) → IsHeld (roll-Expr (Number u))
  held_number u i t x at below = held_by (roll-Expr (Number u)) i t _ _ (bounds_at_Number m t u) (value_at_Number m c i u) (λ b told.
      let some = if_some (is_type m u) (Some (bounds.Number (pos 0) (pos m.instances))) b told in
      subst (λ b. IsWithinBounds b (found.Number (pos (count_by (under m u) c)))) (same_Some _ b some)
      (omega (arith, ints), omega (arith, ints, few_under u)))

  -- the sum of expressions that lie within their bounds
  held_add : (es : List ((e : Expr) × IsHeld e)) → IsHeld (roll-Expr (Add (map (λ e. e.0) es)))
  held_add es i t x at below = held_by (roll-Expr (Add (map (λ e. e.0) es))) i t _ _ (bounds_at_Add_onto m t (map (λ e. e.0) es)) (value_at_Add m c i (map (λ e. e.0) es)) (λ b told.
      let parts = map (λ (e : (e : Expr) × IsHeld e). e.0) es in
      let some = if_some (has_arguments parts) (sum_onto (pos 0) (pos 0) (map (λ e. bounds_at m e t) parts)) b told in
      sum_within (λ e. e.0) (λ e. bounds_at m e t) (λ e. value_at m c i e) (λ e. e.1 i t x at below) es (pos 0) (pos 0) (pos 0) b (omega (arith, ints), omega (arith, ints)) some)

  -- the difference of two of them
  held_sub : (e f : Expr) → IsHeld e → IsHeld f → IsHeld (roll-Expr (Sub e f))
  held_sub e f first second i t x at below = held_by (roll-Expr (Sub e f)) i t _ _ (bounds_at_Sub m t e f) (value_at_Sub m c i e f) (λ b told.
      difference_within (bounds_at m e t) (bounds_at m f t) (value_at m c i e) (value_at m c i f) b (first i t x at below) (second i t x at below) told)

  -- a multiple of one
  held_times : (k : ℤ) (e : Expr) → IsHeld e → IsHeld (roll-Expr (Times k e))
  held_times k e each i t x at below = held_by (roll-Expr (Times k e)) i t _ _ (bounds_at_Times m t k e) (value_at_Times m c i k e) (λ b told.
      multiple_within k (bounds_at m e t) (value_at m c i e) b (each i t x at below) told)

  -- A truth lies within the bounds of each other form.
  held_truth : (e : Expr) (v : ℕ → Bool) (o : ℕ → Option Bounds) → ((i : ℕ) → value_at m c i e ≡ found.Truth (v i)) → ((t : ℕ) → bounds_at m e t ≡ o t)
      → ((t : ℕ) (b : Bounds) → o t ≡ Some b → bounds.Truth ≡ b) → IsHeld e
  held_truth e v o value told truth i t x at below = held_by e i t (o t) (found.Truth (v i)) (told t) (value i) (λ b is_b. truth_within (v i) b (truth t b is_b))

  -- a comparison is a truth
  held_cmp : (r : Relation) (e f : Expr) → IsHeld (roll-Expr (Cmp r e f))
  held_cmp r e f = held_truth (roll-Expr (Cmp r e f)) _ _ (λ i. value_at_Cmp m c i r e f) (λ t. bounds_at_Cmp m t r e f) (λ t b told.
      comparison_told (bounds_at m e t) (bounds_at m f t) b told)

  -- so is the test of a word
  held_is : (a w : ℕ) → IsHeld (roll-Expr (Is a w))
  held_is a w = held_truth (roll-Expr (Is a w)) _ _ (λ i. value_at_Is m c i a w) (λ t. bounds_at_Is m t a w) (λ t b told.
      same_Some bounds.Truth b (if_some _ (Some bounds.Truth) b told))

  -- and that of a type
  held_kind : (u : ℕ) → IsHeld (roll-Expr (Kind u))
  held_kind u = held_truth (roll-Expr (Kind u)) _ _ (λ i. value_at_Kind m c i u) (λ t. bounds_at_Kind m t u) (λ t b told.
      same_Some bounds.Truth b (if_some (is_type m u) (Some bounds.Truth) b told))

  -- and what all of some expressions tell together
  held_and : (es : List Expr) → IsHeld (roll-Expr (And es))
  held_and es = held_truth (roll-Expr (And es)) _ _ (λ i. value_at_And m c i es) (λ t. bounds_at_And m t es) (λ t b told.
      truth_told (map (λ e. bounds_at m e t) es) b (if_some (has_arguments es) (truth_of (map (λ e. bounds_at m e t) es)) b told))

  -- and what any of them tells
  held_or : (es : List Expr) → IsHeld (roll-Expr (Or es))
  held_or es = held_truth (roll-Expr (Or es)) _ _ (λ i. value_at_Or m c i es) (λ t. bounds_at_Or m t es) (λ t b told.
      truth_told (map (λ e. bounds_at m e t) es) b (if_some (has_arguments es) (truth_of (map (λ e. bounds_at m e t) es)) b told))

  -- and a negation
  held_not : (e : Expr) → IsHeld (roll-Expr (Not e))
  held_not e = held_truth (roll-Expr (Not e)) _ _ (λ i. value_at_Not m c i e) (λ t. bounds_at_Not m t e) (λ t b told. truth_told (bounds_at m e t ∷ []) b told)

  -- and an implication
  held_if : (e f : Expr) → IsHeld (roll-Expr (If e f))
  held_if e f = held_truth (roll-Expr (If e f)) _ _ (λ i. value_at_If m c i e f) (λ t. bounds_at_If m t e f) (λ t b told. truth_told (bounds_at m e t ∷ bounds_at m f t ∷ []) b told)

  -- what is told of all links of a port, or of any, is a truth
  linked_told : (p : ℕ) (e : Expr) (t : ℕ) (b : Bounds) → option_and_then (λ q. truth_of (bounds_at m e q.target ∷ [])) (declared_port_of m t p) ≡ Some b → bounds.Truth ≡ b
  linked_told p e t b told =
      let port = and_then_some (λ q. truth_of (bounds_at m e q.target ∷ [])) (declared_port_of m t p) b told in
      truth_told (bounds_at m e port.0.target ∷ []) b port.2

  -- what an expression tells at all links of a port is a truth
  held_all_linked : (p : ℕ) (e : Expr) → IsHeld (roll-Expr (All p e))
  held_all_linked p e = held_truth (roll-Expr (All p e)) _ _ (λ i. value_at_All m c i p e) (λ t. bounds_at_All m t p e) (linked_told p e)

  -- so is what it tells at any
  held_any_linked : (p : ℕ) (e : Expr) → IsHeld (roll-Expr (Any p e))
  held_any_linked p e = held_truth (roll-Expr (Any p e)) _ _ (λ i. value_at_Any m c i p e) (λ t. bounds_at_Any m t p e) (linked_told p e)

  -- each form holds where its arguments do
  held_form : (f : Expr-F ((e : Expr) × IsHeld e)) → IsHeld (roll-Expr (map-Expr ((e : Expr) × IsHeld e) Expr (λ e. e.0) f))
  held_form (Num n) = held_num n
  held_form (Attr a) = held_attr a
  held_form (Count p) = held_count p
  held_form (CountOf p u) = held_count_of p u
  held_form (Sum p a) = held_sum p a
  held_form (Total u a) = held_total u a
  held_form (Number u) = held_number u
  held_form (Add es) = held_add es
  held_form (Sub e f) = held_sub e.0 f.0 e.1 f.1
  held_form (Times k e) = held_times k e.0 e.1
  held_form (Cmp r e f) = held_cmp r e.0 f.0
  held_form (Is a w) = held_is a w
  held_form (Kind u) = held_kind u
  held_form (And es) = held_and (map (λ e. e.0) es)
  held_form (Or es) = held_or (map (λ e. e.0) es)
  held_form (Not e) = held_not e.0
  held_form (If e f) = held_if e.0 f.0
  held_form (All p e) = held_all_linked p e.0
  held_form (Any p e) = held_any_linked p e.0

  -- each expression lies within its bounds
  held : (e : Expr) → IsHeld e
  held = ind-Expr IsHeld (λ x y same. subst (λ f. IsHeld (roll-Expr f)) same (held_form y))

-- In a shaped configuration, at each instance under a type, the value of an expression lies within its bounds at the type.
pub bounds_hold : BoundsHold
bounds_hold m c e i t x b is shaped at below told = held m c is ((shaped_sentences m c).0 shaped) e i t x at below b told
