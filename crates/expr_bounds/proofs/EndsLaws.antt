-- A form whose names are known and whose arguments are right lacks bounds exactly where it is wide.
use Rattle.std.proofs.Common.{◌≡◌, ℕ, suc, ◌∙◌, sym, ap, refl, Bool, true, false, not, ◌||◌, ◌&&◌, ℤ, pos, List, [], ◌∷◌, ◌++◌, map, length, Option, Some, None}
use Rattle.std.specs.Prelude.{slice_get, is_some, nat_lt, if◌then◌else◌}
use Rattle.std.specs.Option.{option_map_or, option_and_then, option_map}
use Rattle.std.specs.List.{list_all}
use Rattle.std.proofs.lemmas.Bool.{false≢true}
use Rattle.std.proofs.lemmas.Option.{slice_get-map}
use Rattle.base_laws.specs.Places.{IsAt}
use Rattle.prod_model.specs.declared.model.Model.{Model}
use Rattle.prod_model.specs.declared.model.AttrAt.{AttrAt}
use Rattle.prod_model.specs.declared.model.PortAt.{PortAt}
use Rattle.prod_model.specs.declared.model.Domain.TheVariants.{Range, Words}
use Rattle.prod_model.specs.declared.expr_bounds.Bounds.{Bounds}
use Rattle.prod_model.specs.declared.expr_bounds.Bounds.TheVariants.{Number as number, Truth as truth}
use Rattle.prod_model.specs.declared.expr.Expr.{Expr}
use Rattle.prod_model.specs.declared.expr.Expr.TheOpen.{Expr-F, Num, Attr, Count, CountOf, Sum, Total, Number, Add, Sub, Times, Cmp, Is, Kind, And, Or, Not, If, All, Any}
use Rattle.prod_model.specs.Limits.{is_within, farthest_bound}
use Rattle.prod_model.specs.Forest.{is_type}
use Rattle.prod_model.specs.Taxonomy.{attribute_of, declared_port_of, first_words}
use Rattle.prod_model.specs.ExprBounds.{bounds_at, bounded, is_number, low_of, high_of, sum_of, sum_of_some, difference, multiple, comparison, truth_of, of_range, is_word_of, has_arguments}
use Rattle.prod_model.specs.steps.ExprBounds.{sum_onto}
use Rattle.prod_model.proofs.ExprBoundsLaws.{sum_of_all_added}
use Rattle.base_laws.proofs.Tests.{list_all_at, list_all_from}
use Rattle.expr_bounds.specs.steps.Arguments.{argument_list, has_right_count}
use Rattle.expr_bounds.specs.Parts.{type_of_arguments}
use Rattle.expr_bounds.specs.steps.FormBounds.{form_bounds}
use Rattle.expr_bounds.specs.Faults.{place_unless, has_range, has_words, is_known_word, unknown_names, wrong_attributes, needs_truths}
use Rattle.expr_bounds.specs.Ends.{ends_within, ends_of_range, ends_of_some, ends_of_all, ends_of_difference, ends_of_multiple, ends_of, is_beyond, is_wide}
use Rattle.expr_bounds.proofs.FormSound.{kind_of, HasKind, some_kind, some_mapped, if_holds, one_argument, two_arguments, list_arguments}

-- ---- within the limits, or beyond them

abbrev limited : Option (ℤ × ℤ) → Option Bounds
limited o = option_and_then (λ e. bounded e.0 e.1) o

abbrev is_wide_between : Option (ℤ × ℤ) → Bool
is_wide_between o = option_map_or is_beyond o false

none_unless_both : {A : Type 0} (b c : Bool) (x : A) → (not b || not c) ≡ true → (if b && c then Some x else None) ≡ None
none_unless_both true true x one = absurd (false≢true one)
none_unless_both true false x one = refl
none_unless_both false c x one = refl

not_both : {A : Type 0} (b c : Bool) (x : A) → (if b && c then Some x else None) ≡ None → (not b || not c) ≡ true
not_both true true x none = cc
not_both true false x none = refl
not_both false c x none = refl

none_of_wide : (o : Option (ℤ × ℤ)) → is_wide_between o ≡ true → limited o ≡ None
none_of_wide None wide = refl
none_of_wide (Some e) wide = none_unless_both (is_within farthest_bound e.0) (is_within farthest_bound e.1) (number e.0 e.1) wide

wide_of_none : (o : Option (ℤ × ℤ)) → is_some o ≡ true → limited o ≡ None → is_wide_between o ≡ true
wide_of_none None some none = absurd (false≢true some)
wide_of_none (Some e) some none = not_both (is_within farthest_bound e.0) (is_within farthest_bound e.1) (number e.0 e.1) none

-- ---- bounds are ends within the limits

range_limited : (o : Option AttrAt) → option_and_then (of_range bounded) o ≡ limited (option_and_then ends_of_range o)
range_limited None = refl
range_limited (Some a) = elim a.domain as (λ d. elim d [ Range low high ↦ bounded low high | Words words ↦ None ]
    ≡ limited (elim d [ Range low high ↦ Some (low, high) | Words words ↦ None ])) [ Range low high ↦ refl | Words words ↦ refl ]

some_limited : (l h : ℕ) (o : Option AttrAt) → option_and_then (of_range (sum_of_some l h)) o ≡ limited (option_map (ends_of_some l h) (option_and_then ends_of_range o))
some_limited l h None = refl
some_limited l h (Some a) = elim a.domain as (λ d. elim d [ Range low high ↦ sum_of_some l h low high | Words words ↦ None ]
    ≡ limited (option_map (ends_of_some l h) (elim d [ Range low high ↦ Some (low, high) | Words words ↦ None ]))) [ Range low high ↦ refl | Words words ↦ refl ]

links_limited : (m : Model) (a : ℕ) (o : Option PortAt)
    → option_and_then (λ q. option_and_then (of_range (sum_of_some q.low q.high)) (attribute_of m q.target a)) o
    ≡ limited (option_and_then (λ q. option_map (ends_of_some q.low q.high) (option_and_then ends_of_range (attribute_of m q.target a))) o)
links_limited m a None = refl
links_limited m a (Some q) = some_limited q.low q.high (attribute_of m q.target a)

if_limited : (b : Bool) (low high : ℤ) → (if b then bounded low high else None) ≡ limited (if b then Some (low, high) else None)
if_limited true low high = refl
if_limited false low high = refl

all_limited : (xs : List (Option Bounds)) → sum_onto (pos 0) (pos 0) xs ≡ limited (ends_of_all xs)
all_limited xs = sym (sum_of_all_added xs) ∙ if_limited (list_all is_number xs) (sum_of (map low_of xs)) (sum_of (map high_of xs))

difference_limited : (a b : Option Bounds) → difference a b ≡ limited (option_and_then (λ d. option_map (ends_of_difference d) (ends_within b)) (ends_within a))
difference_limited None b = refl
difference_limited (Some truth) b = refl
difference_limited (Some (number x y)) None = refl
difference_limited (Some (number x y)) (Some truth) = refl
difference_limited (Some (number x y)) (Some (number z w)) = refl

multiple_limited : (k : ℤ) (a : Option Bounds) → multiple k a ≡ limited (option_map (ends_of_multiple k) (ends_within a))
multiple_limited k None = refl
multiple_limited k (Some truth) = refl
multiple_limited k (Some (number x y)) = refl

-- ---- what is wide has no bounds, and its arguments have

none_if : {A : Type 0} (b : Bool) (o : Option A) → o ≡ None → (if b then o else None) ≡ None
none_if true o none = none
none_if false o none = refl

-- a form that is wide has no bounds
pub wide_unbounded : (m : Model) (f : Expr-F Expr) (t : ℕ) → is_wide m f t ≡ true → form_bounds m f t ≡ None
wide_unbounded m (Num n) t wide = none_of_wide (Some (n, n)) wide
wide_unbounded m (Attr a) t wide = range_limited (attribute_of m t a) ∙ none_of_wide (ends_of m (Attr a) t) wide
wide_unbounded m (Sum p a) t wide = links_limited m a (declared_port_of m t p) ∙ none_of_wide (ends_of m (Sum p a) t) wide
wide_unbounded m (Total u a) t wide = some_limited 0 m.instances (attribute_of m u a) ∙ none_of_wide (ends_of m (Total u a) t) wide
wide_unbounded m (Add args) t wide =
    none_if (has_arguments args) _ (all_limited (map (λ e. bounds_at m e t) args) ∙ none_of_wide (ends_of m (Add args) t) wide)
wide_unbounded m (Sub e f) t wide = difference_limited (bounds_at m e t) (bounds_at m f t) ∙ none_of_wide (ends_of m (Sub e f) t) wide
wide_unbounded m (Times k e) t wide = multiple_limited k (bounds_at m e t) ∙ none_of_wide (ends_of m (Times k e) t) wide
wide_unbounded m form t wide = absurd (false≢true wide)

number_within : (o : Option Bounds) → is_some (ends_within o) ≡ true → kind_of o ≡ Some false
number_within None some = absurd (false≢true some)
number_within (Some truth) some = absurd (false≢true some)
number_within (Some (number a b)) some = refl

some_both : {A B C : Type 0} (f : A → B → C) (o : Option A) (r : Option B) → is_some (option_and_then (λ a. option_map (f a) r) o) ≡ true
    → (is_some o ≡ true) × (is_some r ≡ true)
some_both f None r some = absurd (false≢true some)
some_both f (Some a) r some = (refl, some_mapped (f a) r some)

number_kind : (o : Option Bounds) → is_number o ≡ true → kind_of o ≡ Some false
number_kind None is = absurd (false≢true is)
number_kind (Some truth) is = absurd (false≢true is)
number_kind (Some (number a b)) is = refl

numbers_within : (xs : List (Option Bounds)) → is_some (ends_of_all xs) ≡ true → (i : ℕ) (x : Option Bounds) → IsAt xs i x → kind_of x ≡ Some false
numbers_within xs some i x found = number_kind x (list_all_at is_number xs (if_holds (list_all is_number xs) _ some).0 i x found)

ends_numbers : (m : Model) (f : Expr-F Expr) (t : ℕ) → is_some (ends_of m f t) ≡ true → (i : ℕ) (arg : Expr) → IsAt (argument_list f) i arg
    → HasKind m arg (type_of_arguments m f (Some t)) false
ends_numbers m (Num n) t some i arg found = cc
ends_numbers m (Attr a) t some i arg found = cc
ends_numbers m (Sum p a) t some i arg found = cc
ends_numbers m (Total u a) t some i arg found = cc
ends_numbers m (Add args) t some i arg found = list_arguments m t args false (numbers_within (map (λ e. bounds_at m e t) args) some) i arg found
ends_numbers m (Sub e f) t some i arg found =
    let both = some_both ends_of_difference (ends_within (bounds_at m e t)) (ends_within (bounds_at m f t)) some in
    two_arguments m e f (Some t) false (t, refl, number_within (bounds_at m e t) both.0) (t, refl, number_within (bounds_at m f t) both.1) i arg found
ends_numbers m (Times k e) t some i arg found =
    one_argument m e (Some t) false (t, refl, number_within (bounds_at m e t) (some_mapped (ends_of_multiple k) (ends_within (bounds_at m e t)) some)) i arg found
ends_numbers m form t some i arg found = absurd (false≢true some)

some_wide : (o : Option (ℤ × ℤ)) → is_wide_between o ≡ true → is_some o ≡ true
some_wide None wide = wide
some_wide (Some e) wide = refl

-- the arguments of a form that is wide have bounds
pub wide_arguments : (m : Model) (f : Expr-F Expr) (t : ℕ) → is_wide m f t ≡ true → (i : ℕ) (arg : Expr) → IsAt (argument_list f) i arg
    → option_map_or (λ u. is_some (bounds_at m arg u)) (type_of_arguments m f (Some t)) false ≡ true
wide_arguments m f t wide i arg found =
    let has = ends_numbers m f t (some_wide (ends_of m f t) wide) i arg found in
    ap (λ o. option_map_or (λ u. is_some (bounds_at m arg u)) o false) has.1 ∙ some_kind (bounds_at m arg has.0) false has.2

-- ---- what has no bounds is wide, if its names are known and its arguments are right

known : (b : Bool) (k : ℕ) → place_unless b k ≡ [] → b ≡ true
known true k none = refl
known false k none = cc

known_first : (b : Bool) (k : ℕ) (ks : List ℕ) → place_unless b k ++ ks ≡ [] → (b ≡ true) × (ks ≡ [])
known_first true k ks none = (refl, none)
known_first false k ks none = cc

none_some : {A P : Type 0} (o : Option A) → is_some o ≡ true → o ≡ None → P
none_some o some none = absurd (false≢true (sym (ap is_some none) ∙ some))

if_some : {A : Type 0} (b : Bool) (o : Option A) → b ≡ true → is_some o ≡ true → is_some (if b then o else None) ≡ true
if_some true o holds some = some
if_some false o holds some = absurd (false≢true holds)

map_some : {A B : Type 0} (f : A → B) (o : Option A) → is_some o ≡ true → is_some (option_map f o) ≡ true
map_some f None some = some
map_some f (Some x) some = refl

range_some : (o : Option AttrAt) → is_some o ≡ true → option_map_or has_range o true ≡ true → is_some (option_and_then ends_of_range o) ≡ true
range_some None some range = absurd (false≢true some)
range_some (Some a) some range = elim a.domain as (λ d. elim d [ Range low high ↦ true | Words words ↦ false ] ≡ true
    → is_some {T = ℤ × ℤ} (elim d [ Range low high ↦ Some (low, high) | Words words ↦ None ]) ≡ true) [ Range low high ↦ λ r. refl | Words words ↦ λ r. r ] range

links_some : (m : Model) (a : ℕ) (o : Option PortAt) → place_unless (is_some o) 1 ++ option_map_or (λ q. place_unless (is_some (attribute_of m q.target a)) 2) o [] ≡ []
    → place_unless (option_map_or has_range (option_and_then (λ q. attribute_of m q.target a) o) true) 2 ≡ []
    → is_some (option_and_then (λ q. option_map (ends_of_some q.low q.high) (option_and_then ends_of_range (attribute_of m q.target a))) o) ≡ true
links_some m a None names kinds = cc
links_some m a (Some q) names kinds =
    map_some (ends_of_some q.low q.high) (option_and_then ends_of_range (attribute_of m q.target a))
    (range_some (attribute_of m q.target a) (known _ 2 names) (known _ 2 kinds))

total_known : (b c : Bool) → place_unless b 1 ++ (if b then place_unless c 2 else []) ≡ [] → c ≡ true
total_known true c none = known c 2 none
total_known false c none = cc

word_known : (m : Model) (w : ℕ) (o : Option AttrAt) → place_unless (is_some o) 1 ++ option_map_or (λ b. place_unless (is_known_word m w b) 2) o [] ≡ []
    → place_unless (option_map_or has_words o true) 1 ≡ [] → option_map_or (is_word_of m w) o false ≡ true
word_known m w None names kinds = cc
word_known m w (Some a) names kinds = elim a.domain as (λ d. (elim d [ Range low high ↦ true | Words words ↦ false ] || nat_lt w (length (first_words m a.id))) ≡ true
    → not (elim d [ Range low high ↦ true | Words words ↦ false ]) ≡ true → elim d [ Range low high ↦ false | Words words ↦ nat_lt w (length (first_words m a.id)) ] ≡ true) [
      | Range low high ↦ λ word wrong. absurd (false≢true wrong)
      | Words words ↦ λ word right. word
    ] (known _ 2 names) (known _ 1 kinds)

ends_some : (o : Option Bounds) → kind_of o ≡ Some false → is_some (ends_within o) ≡ true
ends_some None is = cc
ends_some (Some truth) is = cc
ends_some (Some (number a b)) is = refl

both_some : {A B C : Type 0} (f : A → B → C) (o : Option A) (r : Option B) → is_some o ≡ true → is_some r ≡ true → is_some (option_and_then (λ a. option_map (f a) r) o) ≡ true
both_some f None r here there = here
both_some f (Some a) r here there = map_some (f a) r there

is_number_of : (o : Option Bounds) → kind_of o ≡ Some false → is_number o ≡ true
is_number_of None is = cc
is_number_of (Some truth) is = cc
is_number_of (Some (number a b)) is = refl

all_some : (xs : List (Option Bounds)) → ((i : ℕ) (x : Option Bounds) → IsAt xs i x → kind_of x ≡ Some false) → is_some (ends_of_all xs) ≡ true
all_some xs each = if_some (list_all is_number xs) _ (list_all_from is_number xs (λ i x found. is_number_of x (each i x found))) refl

truth_there : (o : Option Bounds) → kind_of o ≡ Some true → o ≡ Some truth
truth_there None is = cc
truth_there (Some truth) is = refl
truth_there (Some (number a b)) is = cc

truths_some : (xs : List (Option Bounds)) → ((i : ℕ) (x : Option Bounds) → IsAt xs i x → kind_of x ≡ Some true) → is_some (truth_of xs) ≡ true
truths_some [] each = refl
truths_some (x ∷ xs) each =
    let here = truth_there x (each 0 x refl) in rw here (truths_some xs (λ i y found. each (suc i) y found))

compared_some : (a b : Option Bounds) → kind_of a ≡ Some false → kind_of b ≡ Some false → is_some (comparison a b) ≡ true
compared_some None b here there = cc
compared_some (Some truth) b here there = cc
compared_some (Some (number x y)) None here there = cc
compared_some (Some (number x y)) (Some truth) here there = cc
compared_some (Some (number x y)) (Some (number z w)) here there = refl

kind_at : (m : Model) (arg : Expr) (t : ℕ) (needed : Bool) → HasKind m arg (Some t) needed → kind_of (bounds_at m arg t) ≡ Some needed
kind_at m arg t needed has =
    let same : t ≡ has.0 = ap (λ o. option_map_or (λ (u : ℕ). u) o t) has.1 in ap (λ u. kind_of (bounds_at m arg u)) same ∙ has.2

mapped_kind : (m : Model) (t : ℕ) (needed : Bool) (o : Option Expr) (x : Option Bounds) → ((arg : Expr) → o ≡ Some arg → kind_of (bounds_at m arg t) ≡ Some needed)
    → option_map (λ e. bounds_at m e t) o ≡ Some x → kind_of x ≡ Some needed
mapped_kind m t needed None x each found = cc
mapped_kind m t needed (Some e) x each found =
    let same : bounds_at m e t ≡ x = ap (λ o. option_map_or (λ (y : Option Bounds). y) o None) found in ap kind_of (sym same) ∙ each e refl

abbrev HasKinds : Model → Expr-F Expr → ℕ → Type 0
HasKinds m f t = (i : ℕ) (arg : Expr) → IsAt (argument_list f) i arg → HasKind m arg (type_of_arguments m f (Some t)) (needs_truths f)

listed_kinds : (m : Model) (t : ℕ) (needed : Bool) (args : List Expr) → ((i : ℕ) (arg : Expr) → IsAt args i arg → HasKind m arg (Some t) needed)
    → (i : ℕ) (x : Option Bounds) → IsAt (map (λ e. bounds_at m e t) args) i x → kind_of x ≡ Some needed
listed_kinds m t needed args each i x found =
    mapped_kind m t needed (slice_get args i) x (λ arg at. kind_at m arg t needed (each i arg at)) (sym (slice_get-map (λ e. bounds_at m e t) args i) ∙ found)

linked_some : (m : Model) (e : Expr) (o : Option PortAt) → is_some o ≡ true → HasKind m e (option_map (λ q. q.target) o) true
    → is_some (option_and_then (λ q. truth_of (bounds_at m e q.target ∷ [])) o) ≡ true
linked_some m e None some has = absurd (false≢true some)
linked_some m e (Some q) some has = let here = truth_there (bounds_at m e q.target) (kind_at m e q.target true has) in rw here refl

-- a form without bounds is wide, if its names are known, its attributes and arguments of the right kinds, and its arguments
-- as many as they have to be
pub unbounded_wide : (m : Model) (f : Expr-F Expr) (t : ℕ) → unknown_names m f t ≡ [] → wrong_attributes m f t ≡ [] → HasKinds m f t
    → has_right_count f ≡ true → form_bounds m f t ≡ None → is_wide m f t ≡ true
unbounded_wide m (Num n) t names attributes kinds count none = wide_of_none (Some (n, n)) refl none
unbounded_wide m (Attr a) t names attributes kinds count none =
    wide_of_none (ends_of m (Attr a) t) (range_some (attribute_of m t a) (known _ 1 names) (known _ 1 attributes))
    (sym (range_limited (attribute_of m t a)) ∙ none)
unbounded_wide m (Count p) t names attributes kinds count none = none_some _ (map_some _ (declared_port_of m t p) (known _ 1 names)) none
unbounded_wide m (CountOf p u) t names attributes kinds count none =
    let both = known_first (is_some (declared_port_of m t p)) 1 _ names in
    none_some _ (if_some (is_type m u) _ (known _ 2 both.1) (map_some _ (declared_port_of m t p) both.0)) none
unbounded_wide m (Sum p a) t names attributes kinds count none =
    wide_of_none (ends_of m (Sum p a) t) (links_some m a (declared_port_of m t p) names attributes) (sym (links_limited m a (declared_port_of m t p)) ∙ none)
unbounded_wide m (Total u a) t names attributes kinds count none =
    wide_of_none (ends_of m (Total u a) t)
    (map_some (ends_of_some 0 m.instances) (option_and_then ends_of_range (attribute_of m u a))
    (range_some (attribute_of m u a) (total_known (is_type m u) (is_some (attribute_of m u a)) names) (known _ 2 attributes)))
    (sym (some_limited 0 m.instances (attribute_of m u a)) ∙ none)
unbounded_wide m (Number u) t names attributes kinds count none = none_some _ (if_some (is_type m u) _ (known _ 1 names) refl) none
unbounded_wide m (Add args) t names attributes kinds count none =
    let each = map (λ e. bounds_at m e t) args in
    let here : sum_onto (pos 0) (pos 0) each ≡ None = sym (ap (λ b. if b then sum_onto (pos 0) (pos 0) each else None) count) ∙ none in
    wide_of_none (ends_of m (Add args) t) (all_some each (listed_kinds m t false args kinds)) (sym (all_limited each) ∙ here)
unbounded_wide m (Sub e f) t names attributes kinds count none =
    let a = bounds_at m e t in
    let b = bounds_at m f t in
    wide_of_none (ends_of m (Sub e f) t)
    (both_some ends_of_difference (ends_within a) (ends_within b) (ends_some a (kind_at m e t false (kinds 0 e refl))) (ends_some b (kind_at m f t false (kinds 1 f refl))))
    (sym (difference_limited a b) ∙ none)
unbounded_wide m (Times k e) t names attributes kinds count none =
    let a = bounds_at m e t in
    wide_of_none (ends_of m (Times k e) t) (map_some (ends_of_multiple k) (ends_within a) (ends_some a (kind_at m e t false (kinds 0 e refl))))
    (sym (multiple_limited k a) ∙ none)
unbounded_wide m (Cmp r e f) t names attributes kinds count none =
    none_some _ (compared_some (bounds_at m e t) (bounds_at m f t) (kind_at m e t false (kinds 0 e refl)) (kind_at m f t false (kinds 1 f refl))) none
unbounded_wide m (Is a w) t names attributes kinds count none = none_some _ (if_some _ (Some truth) (word_known m w (attribute_of m t a) names attributes) refl) none
unbounded_wide m (Kind u) t names attributes kinds count none = none_some _ (if_some (is_type m u) (Some truth) (known _ 1 names) refl) none
unbounded_wide m (And args) t names attributes kinds count none =
    none_some _ (if_some (has_arguments args) _ count (truths_some (map (λ e. bounds_at m e t) args) (listed_kinds m t true args kinds))) none
unbounded_wide m (Or args) t names attributes kinds count none =
    none_some _ (if_some (has_arguments args) _ count (truths_some (map (λ e. bounds_at m e t) args) (listed_kinds m t true args kinds))) none
unbounded_wide m (Not e) t names attributes kinds count none =
    none_some _ (truths_some (bounds_at m e t ∷ []) (listed_kinds m t true (e ∷ []) kinds)) none
unbounded_wide m (If e f) t names attributes kinds count none =
    none_some _ (truths_some (bounds_at m e t ∷ bounds_at m f t ∷ []) (listed_kinds m t true (e ∷ f ∷ []) kinds)) none
unbounded_wide m (All p e) t names attributes kinds count none = none_some _ (linked_some m e (declared_port_of m t p) (known _ 1 names) (kinds 0 e refl)) none
unbounded_wide m (Any p e) t names attributes kinds count none = none_some _ (linked_some m e (declared_port_of m t p) (known _ 1 names) (kinds 0 e refl)) none
