-- A form that has bounds knows its names, and its arguments have bounds and are of the kinds that it needs.
use Rattle.std.proofs.Common.{◌≡◌, ℕ, zero, suc, ◌<◌, ◌∙◌, sym, ap, subst, refl, Bool, true, false, not, ◌||◌, ◌==◌, ℤ, ◌+ℤ◌, ◌-ℤ◌, ◌*ℤ◌, pos, List, [], ◌∷◌, ◌++◌, map, length, Option, Some, None, inl, inr, arith}
use Rattle.std.specs.Prelude.{is_some, nat_lt, if◌then◌else◌}
use Rattle.std.specs.Option.{option_map_or, option_and_then, option_map}
use Rattle.std.specs.Int.{int_min, int_max}
use Rattle.std.specs.List.{find}
use Rattle.std.proofs.lemmas.Bool.{false≢true}
use Rattle.std.proofs.lemmas.Bool.Decides.{nat_tests}
use Rattle.std.proofs.lemmas.Option.{slice_get-map, slice_get_cases}
use Rattle.base_laws.specs.Places.{IsAt}
use Rattle.prod_model.specs.declared.model.Model.{Model}
use Rattle.prod_model.specs.declared.model.AttrAt.{AttrAt}
use Rattle.prod_model.specs.declared.model.PortAt.{PortAt}
use Rattle.prod_model.specs.declared.model.Domain.TheVariants.{Range, Words}
use Rattle.prod_model.specs.declared.expr_bounds.Bounds.{Bounds}
use Rattle.prod_model.specs.declared.expr_bounds.Bounds.TheVariants.{Number as number, Truth as truth}
use Rattle.prod_model.specs.declared.expr.Expr.{Expr}
use Rattle.prod_model.specs.declared.expr.Expr.TheOpen.{Expr-F, Num, Attr, Count, CountOf, Sum, Total, Number, Add, Sub, Times, Cmp, Is, Kind, And, Or, Not, If, All, Any}
use Rattle.prod_model.specs.declared.expr.Expr.TheViews.{out-Expr}
use Rattle.prod_model.specs.Forest.{is_type}
use Rattle.prod_model.specs.Taxonomy.{attribute_of, declared_port_of, first_words}
use Rattle.prod_model.specs.ExprBounds.{bounds_at, bounded, sum_of_some, difference, multiple, comparison, truth_of, of_range, is_word_of, has_arguments}
use Rattle.prod_model.specs.steps.ExprBounds.{sum_onto}
use Rattle.expr_bounds.specs.steps.Arguments.{argument_list}
use Rattle.expr_bounds.specs.Parts.{type_of_arguments}
use Rattle.expr_bounds.specs.steps.FormBounds.{form_bounds}
use Rattle.expr_bounds.specs.Faults.{place_unless, has_range, has_words, is_known_word, unknown_names, wrong_attributes, is_truth_form, needs_truths}
use Rattle.prod_model.proofs.TaxonomyLaws.{no_attributes}
use Rattle.expr_bounds.proofs.BoundsLaws.{bounds_at_form}

-- whether it is a truth
abbrev pub kind_of : Option Bounds → Option Bool
kind_of None = None
kind_of (Some truth) = Some true
kind_of (Some (number low high)) = Some false

pub some_kind : (o : Option Bounds) (b : Bool) → kind_of o ≡ Some b → is_some o ≡ true
some_kind None b is = cc
some_kind (Some truth) b is = refl
some_kind (Some (number low high)) b is = refl

abbrev IsBounded : Option Bounds → Type 0
IsBounded o = is_some o ≡ true

-- an argument has bounds where it stands, and is of the kind that the form needs
abbrev pub HasKind : Model → Expr → Option ℕ → Bool → Type 0
HasKind m arg at needed = (u : ℕ) × (at ≡ Some u) × (kind_of (bounds_at m arg u) ≡ Some needed)

pub record IsSound (m : Model) (f : Expr-F Expr) (t : ℕ) : Type 0 where
  pub names : unknown_names m f t ≡ []
  pub attributes : wrong_attributes m f t ≡ []
  pub arguments : (i : ℕ) (arg : Expr) → IsAt (argument_list f) i arg → HasKind m arg (type_of_arguments m f (Some t)) (needs_truths f)
  pub kind : kind_of (form_bounds m f t) ≡ Some (is_truth_form f)

-- ---- numbers and truths

number_kind : (low high : ℤ) → IsBounded (bounded low high) → kind_of (bounded low high) ≡ Some false
number_kind low high is = grind (arith)

number_of_range : (o : Option AttrAt) (f : ℤ → ℤ → Option Bounds) → ((low high : ℤ) → IsBounded (f low high) → kind_of (f low high) ≡ Some false)
    → IsBounded (option_and_then (of_range f) o) → (is_some o ≡ true) × (option_map_or has_range o true ≡ true) × (kind_of (option_and_then (of_range f) o) ≡ Some false)
number_of_range None f each is = absurd (false≢true is)
number_of_range (Some a) f each is = elim a.domain as (λ d. IsBounded (elim d [ Range low high ↦ f low high | Words words ↦ None ])
    → (true ≡ true) × (elim d [ Range low high ↦ true | Words words ↦ false ] ≡ true) × (kind_of (elim d [ Range low high ↦ f low high | Words words ↦ None ]) ≡ Some false)) [
      | Range low high ↦ λ b. (refl, refl, each low high b)
      | Words words ↦ λ b. absurd (false≢true b)
    ] is

sum_kind : (l h : ℕ) (low high : ℤ) → IsBounded (sum_of_some l h low high) → kind_of (sum_of_some l h low high) ≡ Some false
sum_kind l h low high is = number_kind (int_min (pos l *ℤ low) (pos h *ℤ low)) (int_max (pos l *ℤ high) (pos h *ℤ high)) is

no_place : (known : Bool) (place : ℕ) → known ≡ true → place_unless known place ≡ []
no_place known place is = rw is refl

-- ---- arguments

difference_kinds : (a b : Option Bounds) → IsBounded (difference a b) → (kind_of a ≡ Some false) × (kind_of b ≡ Some false) × (kind_of (difference a b) ≡ Some false)
difference_kinds (Some (number a b)) (Some (number c d)) is = (refl, refl, number_kind (a -ℤ d) (b -ℤ c) is)
difference_kinds None b is = absurd (false≢true is)
difference_kinds (Some truth) b is = absurd (false≢true is)
difference_kinds (Some (number x y)) None is = absurd (false≢true is)
difference_kinds (Some (number x y)) (Some truth) is = absurd (false≢true is)

multiple_kinds : (k : ℤ) (a : Option Bounds) → IsBounded (multiple k a) → (kind_of a ≡ Some false) × (kind_of (multiple k a) ≡ Some false)
multiple_kinds k (Some (number a b)) is = (refl, number_kind (int_min (k *ℤ a) (k *ℤ b)) (int_max (k *ℤ a) (k *ℤ b)) is)
multiple_kinds k None is = absurd (false≢true is)
multiple_kinds k (Some truth) is = absurd (false≢true is)

comparison_kinds : (a b : Option Bounds) → IsBounded (comparison a b) → (kind_of a ≡ Some false) × (kind_of b ≡ Some false) × (kind_of (comparison a b) ≡ Some true)
comparison_kinds (Some (number a b)) (Some (number c d)) is = (refl, refl, refl)
comparison_kinds None b is = absurd (false≢true is)
comparison_kinds (Some truth) b is = absurd (false≢true is)
comparison_kinds (Some (number x y)) None is = absurd (false≢true is)
comparison_kinds (Some (number x y)) (Some truth) is = absurd (false≢true is)

first_or_rest : (x : Option Bounds) (xs : List (Option Bounds)) (b : Bool) → kind_of x ≡ Some b → ((i : ℕ) (y : Option Bounds) → IsAt xs i y → kind_of y ≡ Some b)
    → (i : ℕ) (y : Option Bounds) → IsAt (x ∷ xs) i y → kind_of y ≡ Some b
first_or_rest x xs b here rest zero y found = let same : x ≡ y = cc in ap kind_of (sym same) ∙ here
first_or_rest x xs b here rest (suc i) y found = rest i y found

truths_kinds : (xs : List (Option Bounds)) → IsBounded (truth_of xs) → (kind_of (truth_of xs) ≡ Some true) × ((i : ℕ) (x : Option Bounds) → IsAt xs i x → kind_of x ≡ Some true)
truths_kinds [] is = (refl, λ i x found. cc)
truths_kinds (None ∷ xs) is = absurd (false≢true is)
truths_kinds (Some (number low high) ∷ xs) is = absurd (false≢true is)
truths_kinds (Some truth ∷ xs) is = let rest = truths_kinds xs is in (rest.0, first_or_rest (Some truth) xs true refl rest.1)

sums_kinds : (low high : ℤ) (xs : List (Option Bounds)) → IsBounded (sum_onto low high xs)
    → (kind_of (sum_onto low high xs) ≡ Some false) × ((i : ℕ) (x : Option Bounds) → IsAt xs i x → kind_of x ≡ Some false)
sums_kinds low high [] is = (number_kind low high is, λ i x found. cc)
sums_kinds low high (None ∷ xs) is = absurd (false≢true is)
sums_kinds low high (Some truth ∷ xs) is = absurd (false≢true is)
sums_kinds low high (Some (number a b) ∷ xs) is = let rest = sums_kinds (low +ℤ a) (high +ℤ b) xs is in (rest.0, first_or_rest (Some (number a b)) xs false refl rest.1)

-- ---- of forms

-- a number that has an attribute is a type
type_known : (m : Model) (u a : ℕ) → is_some (attribute_of m u a) ≡ true → is_type m u ≡ true
type_known m u a is = elim (slice_get_cases m.types u).1 [
  | inl w ↦ (let within : u < length m.types = w.1 in grind (arith, nat_tests))
  | inr w ↦ (let none = no_attributes m u w.0 in absurd (false≢true (sym (ap (λ as'. is_some (find (λ (x : AttrAt). x.id == a) as')) none) ∙ is)))
]

sound_word : (m : Model) (w : ℕ) (o : Option AttrAt) → option_map_or (is_word_of m w) o false ≡ true
    → (is_some o ≡ true) × (option_map_or (λ b. place_unless (is_known_word m w b) 2) o [] ≡ []) × (option_map_or has_words o true ≡ true)
sound_word m w None is = absurd (false≢true is)
sound_word m w (Some a) is = elim a.domain as (λ d. elim d [ Range low high ↦ false | Words words ↦ nat_lt w (length (first_words m a.id)) ] ≡ true
    → (true ≡ true) × (place_unless (elim d [ Range low high ↦ true | Words words ↦ false ] || nat_lt w (length (first_words m a.id))) 2 ≡ []) × (not (elim d [ Range low high ↦ true | Words words ↦ false ]) ≡ true)) [
      | Range low high ↦ λ b. absurd (false≢true b)
      | Words words ↦ λ b. (refl, no_place (nat_lt w (length (first_words m a.id))) 2 b, refl)
    ] is

pub if_holds : {A : Type 0} (b : Bool) (o : Option A) → is_some (if b then o else None) ≡ true → (b ≡ true) × (is_some o ≡ true)
if_holds true o is = (refl, is)
if_holds false o is = absurd (false≢true is)

pub some_mapped : {A B : Type 0} (f : A → B) (o : Option A) → is_some (option_map f o) ≡ true → is_some o ≡ true
some_mapped f None is = is
some_mapped f (Some x) is = refl

count_kind : (o : Option PortAt) (f : PortAt → Bounds) → ((q : PortAt) → kind_of (Some (f q)) ≡ Some false) → is_some (option_map f o) ≡ true → kind_of (option_map f o) ≡ Some false
count_kind None f each is = absurd (false≢true is)
count_kind (Some q) f each is = each q

no_arguments : (m : Model) (at : Option ℕ) (needed : Bool) (i : ℕ) (arg : Expr) → IsAt [] i arg → HasKind m arg at needed
no_arguments m at needed i arg found = cc

pub one_argument : (m : Model) (e : Expr) (at : Option ℕ) (needed : Bool) → HasKind m e at needed
    → (i : ℕ) (arg : Expr) → IsAt (e ∷ []) i arg → HasKind m arg at needed
one_argument m e at needed here zero arg found = let Has : Expr → Type 0 = λ x. HasKind m x at needed in let same : e ≡ arg = cc in subst Has same here
one_argument m e at needed here (suc i) arg found = cc

pub two_arguments : (m : Model) (e f : Expr) (at : Option ℕ) (needed : Bool) → HasKind m e at needed → HasKind m f at needed
    → (i : ℕ) (arg : Expr) → IsAt (e ∷ f ∷ []) i arg → HasKind m arg at needed
two_arguments m e f at needed here there zero arg found = let Has : Expr → Type 0 = λ x. HasKind m x at needed in let same : e ≡ arg = cc in subst Has same here
two_arguments m e f at needed here there (suc i) arg found = one_argument m f at needed there i arg found

pub list_arguments : (m : Model) (t : ℕ) (es : List Expr) (needed : Bool) → ((i : ℕ) (x : Option Bounds) → IsAt (map (λ e. bounds_at m e t) es) i x → kind_of x ≡ Some needed)
    → (i : ℕ) (arg : Expr) → IsAt es i arg → HasKind m arg (Some t) needed
list_arguments m t es needed each i arg found =
    (t, refl, each i (bounds_at m arg t) (slice_get-map (λ e. bounds_at m e t) es i ∙ ap (option_map (λ e. bounds_at m e t)) found))

linked_kinds : (m : Model) (e : Expr) (o : Option PortAt) → is_some (option_and_then (λ q. truth_of (bounds_at m e q.target ∷ [])) o) ≡ true
    → (is_some o ≡ true) × HasKind m e (option_map (λ q. q.target) o) true × (kind_of (option_and_then (λ q. truth_of (bounds_at m e q.target ∷ [])) o) ≡ Some true)
linked_kinds m e None is = absurd (false≢true is)
linked_kinds m e (Some q) is = let kinds = truths_kinds (bounds_at m e q.target ∷ []) is in (refl, (q.target, refl, kinds.1 0 (bounds_at m e q.target) refl), kinds.0)

sum_sound : (m : Model) (t p a : ℕ) (o : Option PortAt) → is_some (option_and_then (λ q. option_and_then (of_range (sum_of_some q.low q.high)) (attribute_of m q.target a)) o) ≡ true
    → (place_unless (is_some o) 1 ++ option_map_or (λ q. place_unless (is_some (attribute_of m q.target a)) 2) o [] ≡ [])
    × (place_unless (option_map_or has_range (option_and_then (λ q. attribute_of m q.target a) o) true) 2 ≡ [])
    × (kind_of (option_and_then (λ q. option_and_then (of_range (sum_of_some q.low q.high)) (attribute_of m q.target a)) o) ≡ Some false)
sum_sound m t p a None is = absurd (false≢true is)
sum_sound m t p a (Some q) is =
    let found = number_of_range (attribute_of m q.target a) (sum_of_some q.low q.high) (sum_kind q.low q.high) is in
    (no_place (is_some (attribute_of m q.target a)) 2 found.0, no_place (option_map_or has_range (attribute_of m q.target a) true) 2 found.1, found.2)

both_known : (b c : Bool) → b ≡ true → c ≡ true → place_unless b 1 ++ place_unless c 2 ≡ []
both_known b c here there = rw (here, there) refl

pub sound : (m : Model) (f : Expr-F Expr) (t : ℕ) → IsBounded (form_bounds m f t) → IsSound m f t
sound m (Num n) t is = record { names = refl; attributes = refl; arguments = no_arguments m (Some t) false; kind = number_kind n n is }
sound m (Attr a) t is =
    let found = number_of_range (attribute_of m t a) bounded number_kind is in
    record { names = no_place _ 1 found.0; attributes = no_place _ 1 found.1; arguments = no_arguments m (Some t) false; kind = found.2 }
sound m (Count p) t is = record {
  names = no_place _ 1 (some_mapped _ (declared_port_of m t p) is);
  attributes = refl;
  arguments = no_arguments m (Some t) false;
  kind = count_kind (declared_port_of m t p) _ (λ q. refl) is;
}
sound m (CountOf p u) t is =
    let holds = if_holds (is_type m u) _ is in
    record {
      names = both_known (is_some (declared_port_of m t p)) (is_type m u) (some_mapped _ (declared_port_of m t p) holds.1) holds.0;
      attributes = refl;
      arguments = no_arguments m (Some t) false;
      kind = rw holds.0 (count_kind (declared_port_of m t p) (λ q. number (pos 0) (pos q.high)) (λ q. refl) holds.1);
    }
sound m (Sum p a) t is =
    let found = sum_sound m t p a (declared_port_of m t p) is in
    record { names = found.0; attributes = found.1; arguments = no_arguments m (Some t) false; kind = found.2 }
sound m (Total u a) t is =
    let found = number_of_range (attribute_of m u a) (sum_of_some 0 m.instances) (sum_kind 0 m.instances) is in
    let type = type_known m u a found.0 in
    record { names = rw (type, found.0) refl; attributes = no_place _ 2 found.1; arguments = no_arguments m (Some t) false; kind = found.2 }
sound m (Number u) t is = let holds = if_holds (is_type m u) _ is in
    record { names = no_place _ 1 holds.0; attributes = refl; arguments = no_arguments m (Some t) false; kind = rw holds.0 refl }
sound m (Add args) t is =
    let holds = if_holds (has_arguments args) _ is in
    let kinds = sums_kinds (pos 0) (pos 0) (map (λ e. bounds_at m e t) args) holds.1 in
    record { names = refl; attributes = refl; arguments = list_arguments m t args false kinds.1; kind = rw holds.0 kinds.0 }
sound m (Sub e f) t is =
    let kinds = difference_kinds (bounds_at m e t) (bounds_at m f t) is in
    record { names = refl; attributes = refl; arguments = two_arguments m e f (Some t) false (t, refl, kinds.0) (t, refl, kinds.1); kind = kinds.2 }
sound m (Times k e) t is =
    let kinds = multiple_kinds k (bounds_at m e t) is in
    record { names = refl; attributes = refl; arguments = one_argument m e (Some t) false (t, refl, kinds.0); kind = kinds.1 }
sound m (Cmp r e f) t is =
    let kinds = comparison_kinds (bounds_at m e t) (bounds_at m f t) is in
    record { names = refl; attributes = refl; arguments = two_arguments m e f (Some t) false (t, refl, kinds.0) (t, refl, kinds.1); kind = kinds.2 }
sound m (Is a w) t is =
    let holds = if_holds (option_map_or (is_word_of m w) (attribute_of m t a) false) (Some truth) is in
    let found = sound_word m w (attribute_of m t a) holds.0 in
    record { names = rw (found.0, found.1) refl; attributes = no_place _ 1 found.2; arguments = no_arguments m (Some t) false; kind = rw holds.0 refl }
sound m (Kind u) t is = let holds = if_holds (is_type m u) (Some truth) is in
    record { names = no_place _ 1 holds.0; attributes = refl; arguments = no_arguments m (Some t) false; kind = rw holds.0 refl }
sound m (And args) t is =
    let holds = if_holds (has_arguments args) _ is in
    let kinds = truths_kinds (map (λ e. bounds_at m e t) args) holds.1 in
    record { names = refl; attributes = refl; arguments = list_arguments m t args true kinds.1; kind = rw holds.0 kinds.0 }
sound m (Or args) t is =
    let holds = if_holds (has_arguments args) _ is in
    let kinds = truths_kinds (map (λ e. bounds_at m e t) args) holds.1 in
    record { names = refl; attributes = refl; arguments = list_arguments m t args true kinds.1; kind = rw holds.0 kinds.0 }
sound m (Not e) t is =
    let kinds = truths_kinds (bounds_at m e t ∷ []) is in
    record { names = refl; attributes = refl; arguments = one_argument m e (Some t) true (t, refl, kinds.1 0 _ refl); kind = kinds.0 }
sound m (If e f) t is =
    let kinds = truths_kinds (bounds_at m e t ∷ bounds_at m f t ∷ []) is in
    record { names = refl; attributes = refl; arguments = two_arguments m e f (Some t) true (t, refl, kinds.1 0 _ refl) (t, refl, kinds.1 1 _ refl); kind = kinds.0 }
sound m (All p e) t is =
    let kinds = linked_kinds m e (declared_port_of m t p) is in
    record { names = no_place _ 1 kinds.0; attributes = refl; arguments = one_argument m e _ true kinds.1; kind = kinds.2 }
sound m (Any p e) t is =
    let kinds = linked_kinds m e (declared_port_of m t p) is in
    record { names = no_place _ 1 kinds.0; attributes = refl; arguments = one_argument m e _ true kinds.1; kind = kinds.2 }

-- the same of an expression
pub sound_at : (m : Model) (e : Expr) (t : ℕ) → is_some (bounds_at m e t) ≡ true → IsSound m (out-Expr e) t
sound_at m e t is = sound m (out-Expr e) t (ap is_some (sym (bounds_at_form m e t)) ∙ is)
