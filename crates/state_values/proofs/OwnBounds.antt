-- The bounds of a number at a type, from those of its parts.
use Rattle.std.proofs.Common.{◌≡◌, ℕ, ℤ, pos, neg_ℤ, ◌≤◌, ◌-ℤ◌, ◌*ℤ◌, ◌∙◌, ap, sym, subst, Bool, true, false, cond, ◌&&◌, ◌==◌, List, [], ◌∷◌, map, Option, Some, None, refl, leb-true, arith}
use Rattle.std.specs.Prelude.{IsTrue, int_le, nat_le}
use Rattle.std.specs.Int.{int_min, int_max}
use Rattle.std.specs.Option.{option_map_or, option_map, option_and_then}
use Rattle.std.specs.List.{find, list_all}
use Rattle.std.proofs.lemmas.Bool.{and_parts}
use Rattle.std.proofs.lemmas.Int.{ints}
use Rattle.std.proofs.lemmas.Option.{none-some}
use Rattle.std.proofs.lemmas.Simd.{map-map}
use Rattle.base_laws.proofs.Places.{find_at}
use Rattle.prod_model.specs.declared.model.Model.{Model}
use Rattle.prod_model.specs.declared.model.AttrAt.{AttrAt}
use Rattle.prod_model.specs.declared.model.PortAt.{PortAt}
use Rattle.prod_model.specs.declared.model.Domain.{Domain}
use Rattle.prod_model.specs.declared.model.Domain.TheVariants.{Range, Words}
use Rattle.prod_model.specs.declared.expr.Expr.{Expr}
use Rattle.prod_model.specs.declared.expr.Expr.TheOpen.{Expr-F, Num, Attr, Count, CountOf, Sum, Total, Number, Add, Sub, Times, Cmp, Is, Kind, And, Or, Not, If, All, Any}
use Rattle.prod_model.specs.declared.expr.Expr.TheViews.{out-Expr, roll-Expr, roll-out-Expr}
use Rattle.prod_model.specs.declared.expr_bounds.Bounds.{Bounds}
use Rattle.prod_model.specs.declared.expr_bounds.Bounds.TheVariants as bounds
use Rattle.prod_model.specs.Limits.{is_between, is_within, farthest_bound, most_links, most_instances}
use Rattle.prod_model.specs.Forest.{is_type}
use Rattle.prod_model.specs.Taxonomy.{attribute_of, port_of, declared_port_of, declared_ports_at, ports_at, with_inverse}
use Rattle.prod_model.specs.ExprBounds.{sum_of, bounds_at, bounded, is_number, low_of, high_of, sum_of_some, sum_of_all, difference, multiple, comparison, truth_of, of_range, is_word_of, has_arguments}
use Rattle.prod_model.specs.Valid.{IsDeclared, is_pair, has_numbers_of, has_numbers_in_limits}
use Rattle.prod_model.proofs.EntryLimits.{port_pairs}
use Rattle.prod_model.proofs.ExprBoundsLaws.{bounds_at_Num, bounds_at_Attr, bounds_at_Count, bounds_at_CountOf, bounds_at_Sum, bounds_at_Total, bounds_at_Number, bounds_at_Add, bounds_at_Sub, bounds_at_Times, bounds_at_Cmp, bounds_at_Is, bounds_at_Kind, bounds_at_And, bounds_at_Or, bounds_at_Not, bounds_at_If, bounds_at_All, bounds_at_Any}
use Rattle.config_value.proofs.ToldLaws.{if_some}
use Rattle.state_values.specs.declared.interval.Ends.{Ends}
use Rattle.state_values.specs.Sights.{or_zero}
use Rattle.state_values.specs.steps.Ends.{AreLimited}
use Rattle.state_values.specs.steps.Forms.{pair, multiples, values_at, form_own}

-- ---- ports with their inverses

-- the first of the images that passes is the image of the first that does
find_step : {A B : Type 0} (f : A → B) (x : A) (there : Option B) (rest : Option A) (b : Bool) → there ≡ option_map f rest
    → cond b (Some (f x)) there ≡ option_map f (cond b (Some x) rest)
find_step f x there rest true same = refl
find_step f x there rest false same = same

find_map : {A B : Type 0} (f : A → B) (p : B → Bool) (xs : List A) → find p (map f xs) ≡ option_map f (find (λ x. p (f x)) xs)
find_map f p [] = refl
find_map f p (x ∷ xs) = find_step f x (find p (map f xs)) (find (λ y. p (f y)) xs) (p (f x)) (find_map f p xs)

-- a port is the declared one with its inverse
pub port_declared : (m : Model) (t p : ℕ) → port_of m t p ≡ option_map (with_inverse m) (declared_port_of m t p)
port_declared m t p = find_map (with_inverse m) (λ q. q.id == p) (declared_ports_at m t)

-- ---- two ends within the limits

-- two ends are the bounds a and b, and within the limits
pub record AreBounds (a b : ℤ) (e : Ends) : Type 0 where
  pub same : e ≡ pair a b
  pub limited : AreLimited e

ends_limited : (x y : ℤ) → (is_within farthest_bound x && is_within farthest_bound y) ≡ true → AreLimited (pair x y)
ends_limited x y within =
    let both = and_parts (is_within farthest_bound x) (is_within farthest_bound y) within in
    let low = and_parts (int_le (neg_ℤ farthest_bound) x) (int_le x farthest_bound) both.0 in
    let high = and_parts (int_le (neg_ℤ farthest_bound) y) (int_le y farthest_bound) both.1 in
    record {
      low_above = (let h = low.0 in grind (arith, ints));
      low_below = (let h = low.1 in grind (arith, ints));
      high_above = (let h = high.0 in grind (arith, ints));
      high_below = (let h = high.1 in grind (arith, ints));
    }

-- two told ends, as a pair
pub told_pair : (x y a b : ℤ) → Some (bounds.Number x y) ≡ Some (bounds.Number a b) → pair x y ≡ pair a b
told_pair x y a b told = ap (λ o. pair (low_of o) (high_of o)) told

module _ (a b : ℤ) where
  bounded_are : (x y : ℤ) → bounded x y ≡ Some (bounds.Number a b) → AreBounds a b (pair x y)
  bounded_are x y told = by (is_within farthest_bound x && is_within farthest_bound y) refl told
    where
      by : (t : Bool) → (is_within farthest_bound x && is_within farthest_bound y) ≡ t → cond t (Some (bounds.Number x y)) None ≡ Some (bounds.Number a b)
          → AreBounds a b (pair x y)
      by true within told = record { same = told_pair x y a b told; limited = ends_limited x y within }
      by false within told = absurd (none-some (bounds.Number a b) told)

  -- counts up to a limit
  counts_are : (x y : ℕ) → x ≤ 256 → y ≤ 256 → Some (bounds.Number (pos x) (pos y)) ≡ Some (bounds.Number a b) → AreBounds a b (pair (pos x) (pos y))
  counts_are x y low high told = record {
    same = told_pair (pos x) (pos y) a b told;
    limited = record {
      low_above = omega (arith, ints);
      low_below = omega (arith, ints);
      high_above = omega (arith, ints);
      high_below = omega (arith, ints);
    };
  }

  -- ---- leaves

  -- the ends of a range, if there is one
  abbrev least_in : Option AttrAt → ℤ
  least_in o = or_zero (option_and_then (λ (q : AttrAt). elim q.domain [ Range low high ↦ Some low | Words words ↦ None ]) o)

  abbrev greatest_in : Option AttrAt → ℤ
  greatest_in o = or_zero (option_and_then (λ (q : AttrAt). elim q.domain [ Range low high ↦ Some high | Words words ↦ None ]) o)

  range_are : (f : ℤ → ℤ → Option Bounds) (g : ℤ → ℤ → Ends) → ((x y : ℤ) → f x y ≡ Some (bounds.Number a b) → AreBounds a b (g x y))
      → (o : Option AttrAt) → option_and_then (of_range f) o ≡ Some (bounds.Number a b) → AreBounds a b (g (least_in o) (greatest_in o))
  range_are f g are None told = absurd (none-some (bounds.Number a b) told)
  range_are f g are (Some q) told = by q.domain told
    where
      by : (d : Domain) → (elim d [ Range low high ↦ f low high | Words words ↦ None ]) ≡ Some (bounds.Number a b)
          → AreBounds a b (g (or_zero (elim d [ Range low high ↦ Some low | Words words ↦ None ])) (or_zero (elim d [ Range low high ↦ Some high | Words words ↦ None ])))
      by (Range low high) told = are low high told
      by (Words words) told = absurd (none-some (bounds.Number a b) told)

  -- from fewest to most values
  values_are : (m : Model) (fewest most u v : ℕ) → option_and_then (of_range (sum_of_some fewest most)) (attribute_of m u v) ≡ Some (bounds.Number a b)
      → AreBounds a b (multiples (values_at m fewest most u v))
  values_are m fewest most u v told =
      range_are (sum_of_some fewest most) (λ x y. multiples (record { fewest = fewest; most = most; low = x; high = y }))
      (λ x y. bounded_are (int_min (pos fewest *ℤ x) (pos most *ℤ x)) (int_max (pos fewest *ℤ y) (pos most *ℤ y))) (attribute_of m u v) told

  -- ---- forms with arguments

  difference_are : (o p : Option Bounds) → difference o p ≡ Some (bounds.Number a b) → AreBounds a b (pair (low_of o -ℤ high_of p) (high_of o -ℤ low_of p))
  difference_are (Some (bounds.Number x y)) (Some (bounds.Number z w)) told = bounded_are (x -ℤ w) (y -ℤ z) told
  difference_are (Some (bounds.Number x y)) (Some bounds.Truth) told = absurd (none-some (bounds.Number a b) told)
  difference_are (Some (bounds.Number x y)) None told = absurd (none-some (bounds.Number a b) told)
  difference_are (Some bounds.Truth) p told = absurd (none-some (bounds.Number a b) told)
  difference_are None p told = absurd (none-some (bounds.Number a b) told)

  multiple_are : (k : ℤ) (o : Option Bounds) → multiple k o ≡ Some (bounds.Number a b)
      → AreBounds a b (pair (int_min (k *ℤ low_of o) (k *ℤ high_of o)) (int_max (k *ℤ low_of o) (k *ℤ high_of o)))
  multiple_are k (Some (bounds.Number x y)) told = bounded_are (int_min (k *ℤ x) (k *ℤ y)) (int_max (k *ℤ x) (k *ℤ y)) told
  multiple_are k (Some bounds.Truth) told = absurd (none-some (bounds.Number a b) told)
  multiple_are k None told = absurd (none-some (bounds.Number a b) told)

  -- ---- a truth is no number

  truth_no_number : Some bounds.Truth ≡ Some (bounds.Number a b) → ⊥
  truth_no_number told = cc

  comparison_no_number : (o p : Option Bounds) → comparison o p ≡ Some (bounds.Number a b) → ⊥
  comparison_no_number (Some (bounds.Number x y)) (Some (bounds.Number z w)) told = truth_no_number told
  comparison_no_number (Some (bounds.Number x y)) (Some bounds.Truth) told = none-some (bounds.Number a b) told
  comparison_no_number (Some (bounds.Number x y)) None told = none-some (bounds.Number a b) told
  comparison_no_number (Some bounds.Truth) p told = none-some (bounds.Number a b) told
  comparison_no_number None p told = none-some (bounds.Number a b) told

  truths_no_number : (os : List (Option Bounds)) → truth_of os ≡ Some (bounds.Number a b) → ⊥
  truths_no_number [] told = truth_no_number told
  truths_no_number (Some bounds.Truth ∷ os) told = truths_no_number os told
  truths_no_number (Some (bounds.Number x y) ∷ os) told = none-some (bounds.Number a b) told
  truths_no_number (None ∷ os) told = none-some (bounds.Number a b) told

  linked_no_number : (f : PortAt → Option Bounds) (o : Option PortAt) → option_and_then (λ q. truth_of (f q ∷ [])) o ≡ Some (bounds.Number a b) → ⊥
  linked_no_number f None told = none-some (bounds.Number a b) told
  linked_no_number f (Some q) told = truths_no_number (f q ∷ []) told

-- ---- each form

-- the form is that of a number
abbrev pub IsNumberForm : Expr-F Expr → Type 0
IsNumberForm (Cmp r e f) = ⊥
IsNumberForm (Is v w) = ⊥
IsNumberForm (Kind u) = ⊥
IsNumberForm (And es) = ⊥
IsNumberForm (Or es) = ⊥
IsNumberForm (Not e) = ⊥
IsNumberForm (If e f) = ⊥
IsNumberForm (All p e) = ⊥
IsNumberForm (Any p e) = ⊥
IsNumberForm form = Unit {0}

module _ (m : Model) (t : ℕ) (a b : ℤ) where
  number_roll : (form : Expr-F Expr) → bounds_at m (roll-Expr form) t ≡ Some (bounds.Number a b) → IsNumberForm form
  number_roll (Num n) told = tt
  number_roll (Attr v) told = tt
  number_roll (Count p) told = tt
  number_roll (CountOf p u) told = tt
  number_roll (Sum p v) told = tt
  number_roll (Total u v) told = tt
  number_roll (Number u) told = tt
  number_roll (Add es) told = tt
  number_roll (Sub e f) told = tt
  number_roll (Times k e) told = tt
  number_roll (Cmp r e f) told = comparison_no_number a b (bounds_at m e t) (bounds_at m f t) (sym (bounds_at_Cmp m t r e f) ∙ told)
  number_roll (Is v w) told = truth_no_number a b (if_some (option_map_or (is_word_of m w) (attribute_of m t v) false) (Some bounds.Truth) (bounds.Number a b) (sym (bounds_at_Is m t v w) ∙ told))
  number_roll (Kind u) told = truth_no_number a b (if_some (is_type m u) (Some bounds.Truth) (bounds.Number a b) (sym (bounds_at_Kind m t u) ∙ told))
  number_roll (And es) told = truths_no_number a b (map (λ e. bounds_at m e t) es) (if_some (has_arguments es) (truth_of (map (λ e. bounds_at m e t) es)) (bounds.Number a b) (sym (bounds_at_And m t es) ∙ told))
  number_roll (Or es) told = truths_no_number a b (map (λ e. bounds_at m e t) es) (if_some (has_arguments es) (truth_of (map (λ e. bounds_at m e t) es)) (bounds.Number a b) (sym (bounds_at_Or m t es) ∙ told))
  number_roll (Not e) told = truths_no_number a b (bounds_at m e t ∷ []) (sym (bounds_at_Not m t e) ∙ told)
  number_roll (If e f) told = truths_no_number a b (bounds_at m e t ∷ bounds_at m f t ∷ []) (sym (bounds_at_If m t e f) ∙ told)
  number_roll (All p e) told = linked_no_number a b (λ q. bounds_at m e q.target) (declared_port_of m t p) (sym (bounds_at_All m t p e) ∙ told)
  number_roll (Any p e) told = linked_no_number a b (λ q. bounds_at m e q.target) (declared_port_of m t p) (sym (bounds_at_Any m t p e) ∙ told)

  -- only a number has the bounds of one
  pub number_form : (e : Expr) → bounds_at m e t ≡ Some (bounds.Number a b) → IsNumberForm (out-Expr e)
  number_form e told = number_roll (out-Expr e) (ap (λ e. bounds_at m e t) (roll-out-Expr e) ∙ told)

-- few instances are allowed
pub few_instances : (m : Model) → IsDeclared m → m.instances ≤ 256
unfolding has_numbers_in_limits
few_instances m is =
    let first : IsTrue (is_between 1 most_instances m.instances) =
    (and_parts (is_between 1 most_instances m.instances) (list_all (λ b. is_pair b.low b.high) m.bounds)
    (and_parts (is_between 1 most_instances m.instances && list_all (λ b. is_pair b.low b.high) m.bounds) (list_all has_numbers_of m.types) is.formed.numbers_in_limits).0).0 in
    leb-true m.instances most_instances (and_parts (nat_le 1 m.instances) (nat_le m.instances most_instances) first).1

module _ (m : Model) (is : IsDeclared m) (t : ℕ) (a b : ℤ) where
  -- the pair of a port is within the limit
  few_links : (p : ℕ) (q : PortAt) → port_of m t p ≡ Some q → (q.low ≤ 256) × (q.high ≤ 256)
  few_links p q found =
      let at = find_at (λ (q : PortAt). q.id == p) (ports_at m t) q found in
      let pair = and_parts (nat_le q.low q.high) (nat_le q.high most_links) (port_pairs m is t at.0 q at.1) in
      let low : q.low ≤ q.high = leb-true _ _ pair.0 in
      let high : q.high ≤ most_links = leb-true _ _ pair.1 in
      (omega (arith, low, high), omega (arith, high))

  -- what is told of a declared port holds of the port
  port_are : (p : ℕ) (f : PortAt → Option Bounds) (g : PortAt → Ends)
      → ((q : PortAt) → port_of m t p ≡ Some (with_inverse m q) → f q ≡ Some (bounds.Number a b) → AreBounds a b (g (with_inverse m q)))
      → option_and_then f (declared_port_of m t p) ≡ Some (bounds.Number a b) → AreBounds a b (option_map_or g (port_of m t p) (pair (pos 0) (pos 0)))
  port_are p f g are told = by (declared_port_of m t p) (port_declared m t p) told
    where
      by : (o : Option PortAt) → port_of m t p ≡ option_map (with_inverse m) o → option_and_then f o ≡ Some (bounds.Number a b)
          → AreBounds a b (option_map_or g (port_of m t p) (pair (pos 0) (pos 0)))
      by None is told = absurd (none-some (bounds.Number a b) told)
      by (Some q) is told = subst (λ o. AreBounds a b (option_map_or g o (pair (pos 0) (pos 0)))) (sym is) (are q is told)

  map_told : (f : PortAt → Bounds) (o : Option PortAt) → option_map f o ≡ option_and_then (λ q. Some (f q)) o
  map_told f None = refl
  map_told f (Some q) = refl

  own_roll : (form : Expr-F Expr) → bounds_at m (roll-Expr form) t ≡ Some (bounds.Number a b) → AreBounds a b (form_own m t form)
  own_roll (Num n) told = bounded_are a b n n (sym (bounds_at_Num m t n) ∙ told)
  own_roll (Attr v) told = range_are a b bounded pair (bounded_are a b) (attribute_of m t v) (sym (bounds_at_Attr m t v) ∙ told)
  own_roll (Count p) told =
      port_are p (λ q. Some (bounds.Number (pos q.low) (pos q.high))) (λ q. pair (pos q.low) (pos q.high))
      (λ q found is. let few = few_links p (with_inverse m q) found in counts_are a b q.low q.high few.0 few.1 is)
      (sym (map_told (λ q. bounds.Number (pos q.low) (pos q.high)) (declared_port_of m t p)) ∙ sym (bounds_at_Count m t p) ∙ told)
  own_roll (CountOf p u) told =
      port_are p (λ q. Some (bounds.Number (pos 0) (pos q.high))) (λ q. pair (pos 0) (pos q.high))
      (λ q found is. let few = few_links p (with_inverse m q) found in counts_are a b 0 q.high (omega arith) few.1 is)
      (sym (map_told (λ q. bounds.Number (pos 0) (pos q.high)) (declared_port_of m t p))
      ∙ if_some (is_type m u) (option_map (λ q. bounds.Number (pos 0) (pos q.high)) (declared_port_of m t p)) (bounds.Number a b) (sym (bounds_at_CountOf m t p u) ∙ told))
  own_roll (Sum p v) told =
      port_are p (λ q. option_and_then (of_range (sum_of_some q.low q.high)) (attribute_of m q.target v)) (λ q. multiples (values_at m q.low q.high q.target v))
      (λ q found is. values_are a b m q.low q.high q.target v is) (sym (bounds_at_Sum m t p v) ∙ told)
  own_roll (Total u v) told = values_are a b m 0 m.instances u v (sym (bounds_at_Total m t u v) ∙ told)
  own_roll (Number u) told =
      counts_are a b 0 m.instances (omega arith) (few_instances m is) (if_some (is_type m u) (Some (bounds.Number (pos 0) (pos m.instances))) (bounds.Number a b) (sym (bounds_at_Number m t u) ∙ told))
  own_roll (Add es) told =
      let own = map (λ e. bounds_at m e t) es in
      let all = if_some (has_arguments es) (sum_of_all own) (bounds.Number a b) (sym (bounds_at_Add m t es) ∙ told) in
      let sums = if_some (list_all is_number own) (bounded (sum_of (map low_of own)) (sum_of (map high_of own))) (bounds.Number a b) all in
      subst (AreBounds a b) (ap (λ ns. pair (sum_of ns) (sum_of (map high_of own))) (map-map low_of (λ e. bounds_at m e t) es) ∙ ap (λ ns. pair (sum_of (map (λ e. low_of (bounds_at m e t)) es)) (sum_of ns)) (map-map high_of (λ e. bounds_at m e t) es))
      (bounded_are a b (sum_of (map low_of own)) (sum_of (map high_of own)) sums)
  own_roll (Sub e f) told = difference_are a b (bounds_at m e t) (bounds_at m f t) (sym (bounds_at_Sub m t e f) ∙ told)
  own_roll (Times k e) told = multiple_are a b k (bounds_at m e t) (sym (bounds_at_Times m t k e) ∙ told)
  own_roll (Cmp r e f) told = absurd (number_roll m t a b (Cmp r e f) told)
  own_roll (Is v w) told = absurd (number_roll m t a b (Is v w) told)
  own_roll (Kind u) told = absurd (number_roll m t a b (Kind u) told)
  own_roll (And es) told = absurd (number_roll m t a b (And es) told)
  own_roll (Or es) told = absurd (number_roll m t a b (Or es) told)
  own_roll (Not e) told = absurd (number_roll m t a b (Not e) told)
  own_roll (If e f) told = absurd (number_roll m t a b (If e f) told)
  own_roll (All p e) told = absurd (number_roll m t a b (All p e) told)
  own_roll (Any p e) told = absurd (number_roll m t a b (Any p e) told)

  -- The bounds of a number are those that its form has from its parts, and within the limits.
  pub own_form : (e : Expr) → bounds_at m e t ≡ Some (bounds.Number a b) → AreBounds a b (form_own m t (out-Expr e))
  own_form e told = own_roll (out-Expr e) (ap (λ e. bounds_at m e t) (roll-out-Expr e) ∙ told)
