-- Where an expression has bounds, its parts have them too, and the instances have what it asks for.
use Rattle.std.proofs.Common.{◌≡◌, ℕ, zero, suc, ◌<◌, ◌∙◌, ap, sym, subst, Bool, true, false, ◌==◌, List, [], ◌∷◌, map, Option, Some, None, refl, length, leb-true, ◌≤◌, arith}
use Rattle.std.specs.Prelude.{ℤ, pos, IsTrue, IsSome, nat_le, slice_get, if◌then◌else◌}
use Rattle.std.specs.Option.{option_map_or, option_map, option_and_then, is_some}
use Rattle.std.specs.List.{list_all, list_any}
use Rattle.std.proofs.lemmas.Bool.{and_parts, false≢true}
use Rattle.std.proofs.lemmas.Option.{none-some, same_Some}
use Rattle.base_laws.specs.Places.{IsAt}
use Rattle.base_laws.proofs.Places.{find_at}
use Rattle.base_laws.proofs.Tests.{list_any_at, list_any_from}
use Rattle.instance_set.specs.declared.set.InstanceSet.{InstanceSet}
use Rattle.prod_model.specs.declared.model.Model.{Model}
use Rattle.prod_model.specs.declared.model.AttrAt.{AttrAt}
use Rattle.prod_model.specs.declared.model.PortAt.{PortAt}
use Rattle.prod_model.specs.declared.expr.Expr.{Expr}
use Rattle.prod_model.specs.declared.expr.Expr.TheOpen.{Expr-F, Num, Attr, Count, CountOf, Sum, Total, Number, Add, Sub, Times, Cmp, Is, Kind, And, Or, Not, If, All, Any}
use Rattle.prod_model.specs.declared.expr.Expr.TheViews.{out-Expr, roll-Expr, roll-out-Expr}
use Rattle.prod_model.specs.declared.expr_bounds.Bounds.{Bounds}
use Rattle.prod_model.specs.declared.expr_bounds.Bounds.TheVariants as bounds
use Rattle.prod_model.specs.Limits.{most_arguments}
use Rattle.prod_model.specs.Forest.{is_a, is_type}
use Rattle.prod_model.specs.Taxonomy.{attribute_of, port_of, declared_port_of, attributes_at, ports_at, with_inverse}
use Rattle.prod_model.specs.ExprBounds.{bounds_at, bounded, is_number, is_truth, low_of, high_of, sum_of, sum_of_some, sum_of_all, difference, multiple, comparison, truth_of, of_range, is_word_of, has_arguments}
use Rattle.prod_model.specs.Valid.{IsDeclared}
use Rattle.prod_model.proofs.NarrowingLaws.{attributes_narrow, ports_narrow}
use Rattle.prod_model.proofs.ExprBoundsLaws.{bounds_at_Attr, bounds_at_Count, bounds_at_CountOf, bounds_at_Sum, bounds_at_Total, bounds_at_Add, bounds_at_Sub, bounds_at_Times, bounds_at_Cmp, bounds_at_Is, bounds_at_And, bounds_at_Or, bounds_at_Not, bounds_at_If, bounds_at_All, bounds_at_Any}
use Rattle.config_value.specs.Literals.{has_attribute, has_port}
use Rattle.config_value.proofs.ToldLaws.{and_then_some, map_some, if_some}
use Rattle.state_space.specs.Made.{domain_of, port_of_made}
use Rattle.state_space.specs.State.{State, IsState, number_made, kinds_at, domain_at, port_at}
use Rattle.state_space.proofs.DescribedParts.{one_of_all}
use Rattle.state_values.specs.Sights.{is_surely_under, is_maybe_under}
use Rattle.state_values.specs.steps.Parts.{Stands, HasAttribute, HasPort, HasParts, HasTruths, AtTarget, IsTruth}
use Rattle.state_values.specs.steps.Truths.{StandAmong, HavePort}
use Rattle.state_values.proofs.KindsTold.{there_is}
use Rattle.state_values.proofs.OwnBounds.{port_declared, few_instances}

-- ---- what instances have

-- something is there where it was found
some_there : {A : Type 0} (o : Option A) → IsSome o → (x : A) × (o ≡ Some x)
some_there None some = absurd (false≢true some)
some_there (Some x) some = (x, refl)

is_there : {A : Type 0} (o : Option A) (x : A) → o ≡ Some x → IsSome o
is_there o x at = ap is_some at

module _ (m : Model) (is : IsDeclared m) (s : State) (state : IsState m s) where
  -- a type under another has its attributes
  inherits_attribute : (t u a : ℕ) → IsTrue (is_a m t u) → IsSome (attribute_of m u a) → IsTrue (has_attribute m t a)
  inherits_attribute t u a under some =
      let x = some_there (attribute_of m u a) some in
      let at = find_at (λ (q : AttrAt). q.id == a) (attributes_at m u) x.0 x.1 in
      let here = attributes_narrow m is t u under at.0 x.0 at.1 in
      list_any_from (λ (q : AttrAt). q.id == a) (attributes_at m t) at.0 here.0 here.1 (ap (λ n. n == a) here.2.same_id ∙ at.2)

  inherits_port : (t u p : ℕ) → IsTrue (is_a m t u) → IsSome (port_of m u p) → IsTrue (has_port m t p)
  inherits_port t u p under some =
      let x = some_there (port_of m u p) some in
      let at = find_at (λ (q : PortAt). q.id == p) (ports_at m u) x.0 x.1 in
      let here = ports_narrow m is t u under at.0 x.0 at.1 in
      list_any_from (λ (q : PortAt). q.id == p) (ports_at m t) at.0 here.0 here.1 (ap (λ n. n == p) here.2.same_id ∙ at.2)

  module _ (j : ℕ) (made : j < number_made s) (u : ℕ) (maybe : IsTrue (is_maybe_under m s u j)) where
    -- an instance that may be under a type has domains of its attributes
    pub domain_there : (a : ℕ) → IsSome (attribute_of m u a) → IsSome (domain_at s j a)
    domain_there a known =
        let x = there_is s.made j made in
        let kind = list_any_at (λ t. is_a m t u) (kinds_at s j) maybe in
        let among : IsAt x.0.kinds kind.0 kind.1 = subst (λ (ks : List ℕ). IsAt ks kind.0 kind.1) (ap (λ o. option_map_or (λ y. y.kinds) o []) x.1) kind.2 in
        let has = list_any_from (λ t. has_attribute m t a) x.0.kinds kind.0 kind.1 among (inherits_attribute kind.1 u a kind.3 known) in
        ap (λ o. is_some (option_and_then (λ y. domain_of y a) o)) x.1 ∙ (state.each j x.0 x.1).has_domains a has

    -- and links of its ports
    pub port_there : (p : ℕ) → IsSome (port_of m u p) → IsSome (port_at s j p)
    port_there p known =
        let x = there_is s.made j made in
        let kind = list_any_at (λ t. is_a m t u) (kinds_at s j) maybe in
        let among : IsAt x.0.kinds kind.0 kind.1 = subst (λ (ks : List ℕ). IsAt ks kind.0 kind.1) (ap (λ o. option_map_or (λ y. y.kinds) o []) x.1) kind.2 in
        let has = list_any_from (λ t. has_port m t p) x.0.kinds kind.0 kind.1 among (inherits_port kind.1 u p kind.3 known) in
        ap (λ o. is_some (option_and_then (λ y. port_of_made y p) o)) x.1 ∙ (state.each j x.0 x.1).has_ports p has

  -- an instance that is surely under a type may be under it
  pub maybe_there : (j : ℕ) → j < number_made s → (u : ℕ) → IsTrue (is_surely_under m s u j) → IsTrue (is_maybe_under m s u j)
  maybe_there j made u surely =
      let x = there_is s.made j made in
      let same = ap (λ o. option_map_or (λ y. y.kinds) o []) x.1 in
      let all : IsTrue (list_all (λ t. is_a m t u) x.0.kinds) = sym (ap (list_all (λ t. is_a m t u)) same) ∙ surely in
      ap (list_any (λ t. is_a m t u)) same ∙ one_of_all (λ t. is_a m t u) x.0.kinds (state.each j x.0 x.1).some all

-- ---- the parts

difference_numbers : (o p : Option Bounds) (b : Bounds) → difference o p ≡ Some b → IsTrue (is_number o) × IsTrue (is_number p)
difference_numbers (Some (bounds.Number x y)) (Some (bounds.Number z w)) b told = (refl, refl)
difference_numbers (Some (bounds.Number x y)) (Some bounds.Truth) b told = absurd (none-some b told)
difference_numbers (Some (bounds.Number x y)) None b told = absurd (none-some b told)
difference_numbers (Some bounds.Truth) p b told = absurd (none-some b told)
difference_numbers None p b told = absurd (none-some b told)

comparison_numbers : (o p : Option Bounds) (b : Bounds) → comparison o p ≡ Some b → IsTrue (is_number o) × IsTrue (is_number p)
comparison_numbers (Some (bounds.Number x y)) (Some (bounds.Number z w)) b told = (refl, refl)
comparison_numbers (Some (bounds.Number x y)) (Some bounds.Truth) b told = absurd (none-some b told)
comparison_numbers (Some (bounds.Number x y)) None b told = absurd (none-some b told)
comparison_numbers (Some bounds.Truth) p b told = absurd (none-some b told)
comparison_numbers None p b told = absurd (none-some b told)

multiple_number : (k : ℤ) (o : Option Bounds) (b : Bounds) → multiple k o ≡ Some b → IsTrue (is_number o)
multiple_number k (Some (bounds.Number x y)) b told = refl
multiple_number k (Some bounds.Truth) b told = absurd (none-some b told)
multiple_number k None b told = absurd (none-some b told)

if_true : {B : Type 0} (t : Bool) (o : Option B) (b : B) → (if t then o else None) ≡ Some b → IsTrue t
if_true true o b told = refl
if_true false o b told = absurd (none-some b told)

module _ {X : Type 0} (f : X → Option Bounds) where
  each_number : (xs : List X) → IsTrue (list_all is_number (map f xs)) → (k : ℕ) (x : X) → slice_get xs k ≡ Some x → IsTrue (is_number (f x))
  each_number [] all k x at = absurd (none-some x at)
  each_number (y ∷ xs) all zero x at = subst (λ o. IsTrue (is_number (option_map_or f o None))) at (and_parts (is_number (f y)) (list_all is_number (map f xs)) all).0
  each_number (y ∷ xs) all (suc k) x at = each_number xs (and_parts (is_number (f y)) (list_all is_number (map f xs)) all).1 k x at

  first_truth : (o : Option Bounds) (os : List (Option Bounds)) (b : Bounds) → truth_of (o ∷ os) ≡ Some b → IsTrue (is_truth o) × (truth_of os ≡ Some b)
  first_truth (Some bounds.Truth) os b told = (refl, told)
  first_truth (Some (bounds.Number x y)) os b told = absurd (none-some b told)
  first_truth None os b told = absurd (none-some b told)

  each_truth : (xs : List X) (b : Bounds) → truth_of (map f xs) ≡ Some b → (k : ℕ) (x : X) → slice_get xs k ≡ Some x → IsTrue (is_truth (f x))
  each_truth [] b told k x at = absurd (none-some x at)
  each_truth (y ∷ xs) b told zero x at = subst (λ o. IsTrue (is_truth (option_map_or f o None))) at (first_truth (f y) (map f xs) b told).0
  each_truth (y ∷ xs) b told (suc k) x at = each_truth xs b (first_truth (f y) (map f xs) b told).1 k x at

word_known : (w : AttrAt → Bool) (o : Option AttrAt) → IsTrue (option_map_or w o false) → IsSome o
word_known w None is = absurd (false≢true is)
word_known w (Some q) is = refl

module _ (m : Model) (is : IsDeclared m) (s : State) (t i : ℕ) (stands : Stands m s t i) where
  here : IsTrue (is_maybe_under m s t i)
  here = maybe_there m is s stands.state i stands.made t stands.under

  attribute_here : (a : ℕ) → IsSome (attribute_of m t a) → HasAttribute m s t i a
  attribute_here a known = record { known = known; has = domain_there m is s stands.state i stands.made t here a known }

  port_known : (p : ℕ) (q : PortAt) → declared_port_of m t p ≡ Some q → port_of m t p ≡ Some (with_inverse m q)
  port_known p q at = port_declared m t p ∙ ap (option_map (with_inverse m)) at

  port_here : (p : ℕ) (q : PortAt) → declared_port_of m t p ≡ Some q → HasPort m s t i p
  port_here p q at =
      let known = is_there (port_of m t p) (with_inverse m q) (port_known p q at) in
      record { known = known; has = port_there m is s stands.state i stands.made t here p known }

  at_target : (p : ℕ) (q : PortAt) → declared_port_of m t p ≡ Some q → (P : ℕ → Type 0) → P q.target → (r : PortAt) → port_of m t p ≡ Some r → P r.target
  at_target p q at P has r found = subst (λ (x : PortAt). P x.target) (same_Some (with_inverse m q) r (sym (port_known p q at) ∙ found)) has

  linked_parts : (p : ℕ) (e : Expr) (b : Bounds) → option_and_then (λ q. truth_of (bounds_at m e q.target ∷ [])) (declared_port_of m t p) ≡ Some b
      → HasPort m s t i p × ((r : PortAt) → port_of m t p ≡ Some r → IsTruth m r.target e)
  linked_parts p e b told =
      let port = and_then_some (λ q. truth_of (bounds_at m e q.target ∷ [])) (declared_port_of m t p) b told in
      (port_here p port.0 port.1, at_target p port.0 port.1 (λ u. IsTruth m u e) (each_truth (λ x. bounds_at m x port.0.target) (e ∷ []) b port.2 0 e refl))

  parts_roll : (form : Expr-F Expr) (b : Bounds) → bounds_at m (roll-Expr form) t ≡ Some b → HasParts m s t i form
  parts_roll (Num n) b told = tt
  parts_roll (Attr a) b told =
      let q = and_then_some (of_range bounded) (attribute_of m t a) b (sym (bounds_at_Attr m t a) ∙ told) in
      attribute_here a (is_there (attribute_of m t a) q.0 q.1)
  parts_roll (Count p) b told =
      let q = map_some (λ q. bounds.Number (pos q.low) (pos q.high)) (declared_port_of m t p) b (sym (bounds_at_Count m t p) ∙ told) in
      port_here p q.0 q.1
  parts_roll (CountOf p u) b told =
      let links = option_map (λ q. bounds.Number (pos 0) (pos q.high)) (declared_port_of m t p) in
      let told' = sym (bounds_at_CountOf m t p u) ∙ told in
      let q = map_some (λ q. bounds.Number (pos 0) (pos q.high)) (declared_port_of m t p) b (if_some (is_type m u) links b told') in
      (port_here p q.0 q.1, if_true (is_type m u) links b told')
  parts_roll (Sum p a) b told =
      let q = and_then_some (λ q. option_and_then (of_range (sum_of_some q.low q.high)) (attribute_of m q.target a)) (declared_port_of m t p) b (sym (bounds_at_Sum m t p a) ∙ told) in
      let v = and_then_some (of_range (sum_of_some q.0.low q.0.high)) (attribute_of m q.0.target a) b q.2 in
      (port_here p q.0 q.1, at_target p q.0 q.1 (λ u. IsSome (attribute_of m u a)) (is_there (attribute_of m q.0.target a) v.0 v.1))
  parts_roll (Total u a) b told =
      let v = and_then_some (of_range (sum_of_some 0 m.instances)) (attribute_of m u a) b (sym (bounds_at_Total m t u a) ∙ told) in
      is_there (attribute_of m u a) v.0 v.1
  parts_roll (Number u) b told = tt
  parts_roll (Add es) b told =
      let own = map (λ e. bounds_at m e t) es in
      let all = if_some (has_arguments es) (sum_of_all own) b (sym (bounds_at_Add m t es) ∙ told) in
      let few = if_true (has_arguments es) (sum_of_all own) b (sym (bounds_at_Add m t es) ∙ told) in (
        each_number (λ e. bounds_at m e t) es (if_true (list_all is_number own) (bounded (sum_of (map low_of own)) (sum_of (map high_of own))) b all),
        leb-true (length es) most_arguments (and_parts (nat_le 1 (length es)) (nat_le (length es) most_arguments) few).1,
      )
  parts_roll (Sub e f) b told = difference_numbers (bounds_at m e t) (bounds_at m f t) b (sym (bounds_at_Sub m t e f) ∙ told)
  parts_roll (Times k e) b told = multiple_number k (bounds_at m e t) b (sym (bounds_at_Times m t k e) ∙ told)
  parts_roll (Cmp r e f) b told = comparison_numbers (bounds_at m e t) (bounds_at m f t) b (sym (bounds_at_Cmp m t r e f) ∙ told)
  parts_roll (Is a w) b told =
      attribute_here a (word_known (is_word_of m w) (attribute_of m t a) (if_true (option_map_or (is_word_of m w) (attribute_of m t a) false) (Some bounds.Truth) b (sym (bounds_at_Is m t a w) ∙ told)))
  parts_roll (Kind u) b told = tt
  parts_roll (And es) b told = each_truth (λ e. bounds_at m e t) es b (if_some (has_arguments es) (truth_of (map (λ e. bounds_at m e t) es)) b (sym (bounds_at_And m t es) ∙ told))
  parts_roll (Or es) b told = each_truth (λ e. bounds_at m e t) es b (if_some (has_arguments es) (truth_of (map (λ e. bounds_at m e t) es)) b (sym (bounds_at_Or m t es) ∙ told))
  parts_roll (Not e) b told = each_truth (λ x. bounds_at m x t) (e ∷ []) b (sym (bounds_at_Not m t e) ∙ told) 0 e refl
  parts_roll (If e f) b told =
      let each = each_truth (λ x. bounds_at m x t) (e ∷ f ∷ []) b (sym (bounds_at_If m t e f) ∙ told) in
      (each 0 e refl, each 1 f refl)
  parts_roll (All p e) b told = linked_parts p e b (sym (bounds_at_All m t p e) ∙ told)
  parts_roll (Any p e) b told = linked_parts p e b (sym (bounds_at_Any m t p e) ∙ told)

  -- An expression with bounds has what it asks for.
  pub parts_there : (e : Expr) (b : Bounds) → bounds_at m e t ≡ Some b → HasParts m s t i (out-Expr e)
  parts_there e b told = parts_roll (out-Expr e) b (ap (λ e. bounds_at m e t) (roll-out-Expr e) ∙ told)

-- ---- truths, whichever the instance

-- a truth is one
pub truth_told : (o : Option Bounds) → IsTrue (is_truth o) → o ≡ Some bounds.Truth
truth_told (Some bounds.Truth) is = refl
truth_told (Some (bounds.Number a b)) is = absurd (false≢true is)
truth_told None is = absurd (false≢true is)

module _ (m : Model) (t : ℕ) where
  linked_truth : (p : ℕ) (e : Expr) (b : Bounds) → option_and_then (λ q. truth_of (bounds_at m e q.target ∷ [])) (declared_port_of m t p) ≡ Some b
      → IsSome (port_of m t p) × AtTarget m t p (λ u. IsTruth m u e)
  linked_truth p e b told =
      let port = and_then_some (λ q. truth_of (bounds_at m e q.target ∷ [])) (declared_port_of m t p) b told in
      let known = port_declared m t p ∙ ap (option_map (with_inverse m)) port.1 in
      let truth = each_truth (λ x. bounds_at m x port.0.target) (e ∷ []) b port.2 0 e refl in (
        is_there (port_of m t p) (with_inverse m port.0) known,
        λ r found. subst (λ (x : PortAt). IsTruth m x.target e) (same_Some (with_inverse m port.0) r (sym known ∙ found)) truth,
      )

  truths_roll : (form : Expr-F Expr) (b : Bounds) → bounds_at m (roll-Expr form) t ≡ Some b → HasTruths m t form
  truths_roll (Num n) b told = tt
  truths_roll (Attr a) b told = tt
  truths_roll (Count p) b told = tt
  truths_roll (CountOf p u) b told = tt
  truths_roll (Sum p a) b told = tt
  truths_roll (Total u a) b told = tt
  truths_roll (Number u) b told = tt
  truths_roll (Add es) b told = tt
  truths_roll (Sub e f) b told = tt
  truths_roll (Times k e) b told = tt
  truths_roll (Cmp r e f) b told = tt
  truths_roll (Is a w) b told = tt
  truths_roll (Kind u) b told = tt
  truths_roll (And es) b told = each_truth (λ e. bounds_at m e t) es b (if_some (has_arguments es) (truth_of (map (λ e. bounds_at m e t) es)) b (sym (bounds_at_And m t es) ∙ told))
  truths_roll (Or es) b told = each_truth (λ e. bounds_at m e t) es b (if_some (has_arguments es) (truth_of (map (λ e. bounds_at m e t) es)) b (sym (bounds_at_Or m t es) ∙ told))
  truths_roll (Not e) b told = each_truth (λ x. bounds_at m x t) (e ∷ []) b (sym (bounds_at_Not m t e) ∙ told) 0 e refl
  truths_roll (If e f) b told =
      let each = each_truth (λ x. bounds_at m x t) (e ∷ f ∷ []) b (sym (bounds_at_If m t e f) ∙ told) in
      (each 0 e refl, each 1 f refl)
  truths_roll (All p e) b told = linked_truth p e b (sym (bounds_at_All m t p e) ∙ told)
  truths_roll (Any p e) b told = linked_truth p e b (sym (bounds_at_Any m t p e) ∙ told)

  -- A truth has truths as its arguments.
  pub truths_there : (e : Expr) → IsTruth m t e → HasTruths m t (out-Expr e)
  truths_there e is = truths_roll (out-Expr e) bounds.Truth (ap (λ e. bounds_at m e t) (roll-out-Expr e) ∙ truth_told (bounds_at m e t) is)

  pub form_there : (e : Expr) (form : Expr-F Expr) → out-Expr e ≡ form → IsTruth m t e → HasTruths m t form
  form_there e form is truth = subst (HasTruths m t) is (truths_there e truth)

-- each member of a set under a type has the type's ports
pub have_port : (m : Model) (is : IsDeclared m) (s : State) (state : IsState m s) (t p : ℕ) (among : InstanceSet) → StandAmong m s t among → IsSome (port_of m t p) → HavePort s among p
have_port m is s state t p among stand known = λ i here.
    let stands = stand i here in
    port_there m is s state i stands.made t (maybe_there m is s state i stands.made t stands.under) p known

-- a made instance is one of 256
pub few_made : (m : Model) → IsDeclared m → (s : State) → IsState m s → (i : ℕ) → i < number_made s → i < 256
few_made m is s state i made =
    let few = few_instances m is in
    let most : number_made s ≤ m.instances = leb-true (number_made s) m.instances (and_parts (nat_le 1 (number_made s)) (nat_le (number_made s) m.instances) state.size).1 in
    omega (arith, few, most)
