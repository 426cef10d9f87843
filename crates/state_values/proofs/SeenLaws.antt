-- What `seen_at` is at a form, from what it is at the parts.
use Rattle.std.proofs.Common.{◌≡◌, ℕ, ap, ◌∙◌, refl, subst, map-id}
use Rattle.std.proofs.Math.Path.{fun_ext}
use Rattle.std.proofs.lemmas.Simd.{map-map}
use Rattle.prod_model.specs.declared.model.Model.{Model}
use Rattle.prod_model.specs.declared.expr.Expr.{Expr, map-Expr}
use Rattle.prod_model.specs.declared.expr.Expr.TheOpen.{Expr-F, Num, Attr, Count, CountOf, Sum, Total, Number, Add, Sub, Times, Cmp, Is, Kind, And, Or, Not, If, All, Any}
use Rattle.prod_model.specs.declared.expr.Expr.TheViews.{roll-Expr}
use Rattle.prod_model.specs.declared.expr.Expr.TheFolds.{fold-Expr, fold-roll-Expr, ind-Expr}
use Rattle.prod_model.specs.ExprBounds.{bounds_at}
use Rattle.state_space.specs.State.{State}
use Rattle.state_values.specs.Seen.{Part, part_of, layer_seen, within_bounds, seen_at}

-- maps compose, form by form
map_twice : {A B C : Type 0} (g : B → C) (h : A → B) (f : Expr-F A) → map-Expr B C g (map-Expr A B h f) ≡ map-Expr A C (λ x. g (h x)) f
map_twice g h (Num n) = refl
map_twice g h (Attr a) = refl
map_twice g h (Count p) = refl
map_twice g h (CountOf p u) = refl
map_twice g h (Sum p a) = refl
map_twice g h (Total u a) = refl
map_twice g h (Number u) = refl
map_twice g h (Add es) = ap Add (map-map g h es)
map_twice g h (Sub e f) = refl
map_twice g h (Times k e) = refl
map_twice g h (Cmp r e f) = refl
map_twice g h (Is a w) = refl
map_twice g h (Kind u) = refl
map_twice g h (And es) = ap And (map-map g h es)
map_twice g h (Or es) = ap Or (map-map g h es)
map_twice g h (Not e) = refl
map_twice g h (If e f) = refl
map_twice g h (All p e) = refl
map_twice g h (Any p e) = refl

-- the map by the identity
map_same : {A : Type 0} (f : Expr-F A) → map-Expr A A (λ x. x) f ≡ f
map_same (Num n) = refl
map_same (Attr a) = refl
map_same (Count p) = refl
map_same (CountOf p u) = refl
map_same (Sum p a) = refl
map_same (Total u a) = refl
map_same (Number u) = refl
map_same (Add es) = ap Add (map-id es)
map_same (Sub e f) = refl
map_same (Times k e) = refl
map_same (Cmp r e f) = refl
map_same (Is a w) = refl
map_same (Kind u) = refl
map_same (And es) = ap And (map-id es)
map_same (Or es) = ap Or (map-id es)
map_same (Not e) = refl
map_same (If e f) = refl
map_same (All p e) = refl
map_same (Any p e) = refl

module _ (m : Model) (st : State) where
  -- what the fold gives for an expression
  abbrev pub folded : Expr → Part
  folded e = fold-Expr Part (part_of m st) e

  -- the fold keeps the expression
  keeps : (e : Expr) → (folded e).expr ≡ e
  keeps = ind-Expr (λ e. (folded e).expr ≡ e) (λ x y same. subst (λ f. (folded (roll-Expr f)).expr ≡ roll-Expr f) same (by y))
    where
      by : (y : Expr-F ((e : Expr) × ((folded e).expr ≡ e))) → (folded (roll-Expr (map-Expr ((e : Expr) × ((folded e).expr ≡ e)) Expr (λ e. e.0) y))).expr ≡ roll-Expr (map-Expr ((e : Expr) × ((folded e).expr ≡ e)) Expr (λ e. e.0) y)
      by y =
          let f = map-Expr ((e : Expr) × ((folded e).expr ≡ e)) Expr (λ e. e.0) y in
          ap (λ (p : Part). p.expr) (fold-roll-Expr Part (part_of m st) f)
          ∙ ap roll-Expr (map_twice (λ (p : Part). p.expr) folded f ∙ map_twice (λ e. (folded e).expr) (λ (e : (e : Expr) × ((folded e).expr ≡ e)). e.0) y)
          ∙ ap (λ g. roll-Expr (map-Expr ((e : Expr) × ((folded e).expr ≡ e)) Expr g y)) (fun_ext (λ (e : (e : Expr) × ((folded e).expr ≡ e)). e.1))

  -- an expression as a part
  abbrev pub as_part : Expr → Part
  as_part e = record { expr = e; seen = λ t i. seen_at m st t i e }

  -- the fold gives the expression as a part
  folded_is : (e : Expr) → folded e ≡ as_part e
  unfolding seen_at
  folded_is e = ap (λ x. record { expr = x; seen = (folded e).seen }) (keeps e)

  -- What a form is at a type and an instance, brought into its own bounds.
  pub seen_at_roll : (t i : ℕ) (f : Expr-F Expr)
      → seen_at m st t i (roll-Expr f) ≡ within_bounds (bounds_at m (roll-Expr f) t) (layer_seen m st (map-Expr Expr Part as_part f) t i)
  unfolding seen_at
  seen_at_roll t i f =
      ap (λ (p : Part). p.seen t i) (fold-roll-Expr Part (part_of m st) f)
      ∙ ap (λ g. (part_of m st (map-Expr Expr Part g f)).seen t i) (fun_ext folded_is)
      ∙ ap (λ e. within_bounds (bounds_at m e t) (layer_seen m st (map-Expr Expr Part as_part f) t i)) (ap roll-Expr (map_twice (λ (p : Part). p.expr) as_part f ∙ map_same f))
