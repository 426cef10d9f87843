-- The own faults of a part ascend, and come before those of its arguments.
use Rattle.std.proofs.Common.{◌≡◌, ℕ, ◌+◌, ◌≤◌, ◌∙◌, sym, ap, refl, Bool, true, false, not, List, [], ◌∷◌, ◌++◌, Option, Some, None, IsTrue, Contains, arith}
use Rattle.std.specs.Prelude.{nat_le, is_some, if◌then◌else◌}
use Rattle.std.specs.Option.{option_map_or}
use Rattle.std.specs.List.{list_all}
use Rattle.std.specs.Ordering.{nat_cmp, is_lt}
use Rattle.std.specs.Cmp.Lexicographic.{slice_cmp}
use Rattle.std.proofs.lemmas.Bool.{false≢true}
use Rattle.std.proofs.lemmas.Bool.Decides.{nat_tests}
use Rattle.base_laws.specs.Places.{IsAt}
use Rattle.prod_model.specs.declared.model.Model.{Model}
use Rattle.prod_model.specs.declared.expr.Expr.{Expr}
use Rattle.prod_model.specs.declared.expr.Expr.TheOpen.{Expr-F, Num, Attr, Count, CountOf, Sum, Total, Number, Add, Sub, Times, Cmp, Is, Kind, And, Or, Not, If, All, Any}
use Rattle.prod_model.specs.declared.expr.Expr.TheViews.{out-Expr}
use Rattle.prod_model.specs.Forest.{is_type}
use Rattle.prod_model.specs.Taxonomy.{attribute_of, declared_port_of}
use Rattle.expr_bounds.specs.steps.Arguments.{argument_list, first_place}
use Rattle.expr_bounds.specs.Faults.{place_unless, has_range, has_words, attribute_of_target, is_known_word, unknown_names, wrong_attributes}
use Rattle.expr_bounds.specs.steps.Search.{own_faults, whole_if, places, is_too_deep, is_wrong_kind, is_innermost_unbounded, IsPathBefore}
use Rattle.expr_bounds.specs.declared.fault_kind.FaultKind.{FaultKind}
use Rattle.expr_bounds.specs.declared.fault_kind.FaultKind.TheVariants.{Deep, UnknownName, WrongKind, Wide}
use Rattle.expr_bounds.specs.declared.standing.Standing.{Standing}
use Rattle.base_laws.proofs.Tests.{list_all_at}
use Rattle.base_laws.proofs.Elements.{at_contained}
use Rattle.expr_bounds.proofs.PathOrder.{not_before_whole, before_rest}

-- ---- tests of all members

all_contains : {X : Type 0} (p : X → Bool) (xs : List X) (x : X) → list_all p xs ≡ true → Contains xs x → p x ≡ true
all_contains p xs x all among = list_all_at p xs all among.0 x (at_contained xs x among)

-- ---- own faults ascend

abbrev is_not_before : List ℕ → List ℕ → Bool
is_not_before p q = not (is_lt (slice_cmp nat_cmp q p))

-- none of the paths is before the first of them
abbrev first_is_least : List (List ℕ) → Bool
first_is_least [] = true
first_is_least (p ∷ ps) = list_all (is_not_before p) (p ∷ ps)

not_both : (b : Bool) → not b ≡ true → ¬ IsTrue b
not_both true fails holds = false≢true fails
not_both false fails holds = false≢true holds

first_least : (ps : List (List ℕ)) (p q : List ℕ) → first_is_least ps ≡ true → IsAt ps 0 p → Contains ps q → ¬ IsPathBefore q p
first_least [] p q least first among = absurd (omega (arith, among.1))
first_least (r ∷ ps) p q least first among =
    let same : r ≡ p = cc in
    not_both (is_lt (slice_cmp nat_cmp q p)) (ap (λ x. is_not_before x q) (sym same) ∙ all_contains (is_not_before r) (r ∷ ps) q least among)

least_whole : (b : Bool) → first_is_least (whole_if b) ≡ true
least_whole true = refl
least_whole false = refl

least_one : (b : Bool) → first_is_least (places (place_unless b 1)) ≡ true
least_one true = refl
least_one false = refl

least_two : (b : Bool) → first_is_least (places (place_unless b 2)) ≡ true
least_two true = refl
least_two false = refl

least_both : (b c : Bool) → first_is_least (places (place_unless b 1 ++ place_unless c 2)) ≡ true
least_both true true = refl
least_both true false = refl
least_both false true = refl
least_both false false = refl

least_found : {X : Type 0} (o : Option X) (g : X → Bool) → first_is_least (places (place_unless (is_some o) 1 ++ option_map_or (λ q. place_unless (g q) 2) o [])) ≡ true
least_found None g = refl
least_found (Some x) g = least_two (g x)

least_type : (b c : Bool) → first_is_least (places (place_unless b 1 ++ (if b then place_unless c 2 else []))) ≡ true
least_type true c = least_two c
least_type false c = refl

least_names : (m : Model) (f : Expr-F Expr) (t : ℕ) → first_is_least (places (unknown_names m f t)) ≡ true
least_names m (Num n) t = refl
least_names m (Attr a) t = least_one (is_some (attribute_of m t a))
least_names m (Count p) t = least_one (is_some (declared_port_of m t p))
least_names m (CountOf p u) t = least_both (is_some (declared_port_of m t p)) (is_type m u)
least_names m (Sum p a) t = least_found (declared_port_of m t p) (λ q. is_some (attribute_of m q.target a))
least_names m (Total u a) t = least_type (is_type m u) (is_some (attribute_of m u a))
least_names m (Number u) t = least_one (is_type m u)
least_names m (Add args) t = refl
least_names m (Sub e f) t = refl
least_names m (Times k e) t = refl
least_names m (Cmp r e f) t = refl
least_names m (Is a w) t = least_found (attribute_of m t a) (is_known_word m w)
least_names m (Kind u) t = least_one (is_type m u)
least_names m (And args) t = refl
least_names m (Or args) t = refl
least_names m (Not e) t = refl
least_names m (If e f) t = refl
least_names m (All p e) t = least_one (is_some (declared_port_of m t p))
least_names m (Any p e) t = least_one (is_some (declared_port_of m t p))

least_wrong_one : (w b : Bool) → first_is_least (whole_if w ++ places (place_unless b 1)) ≡ true
least_wrong_one true true = refl
least_wrong_one true false = refl
least_wrong_one false b = least_one b

least_wrong_two : (w b : Bool) → first_is_least (whole_if w ++ places (place_unless b 2)) ≡ true
least_wrong_two true true = refl
least_wrong_two true false = refl
least_wrong_two false b = least_two b

least_wrong_none : (w : Bool) → first_is_least (whole_if w ++ []) ≡ true
least_wrong_none true = refl
least_wrong_none false = refl

least_wrong : (m : Model) (f : Expr-F Expr) (t : ℕ) (w : Bool) → first_is_least (whole_if w ++ places (wrong_attributes m f t)) ≡ true
least_wrong m (Attr a) t w = least_wrong_one w (option_map_or has_range (attribute_of m t a) true)
least_wrong m (Sum p a) t w = least_wrong_two w (option_map_or has_range (attribute_of_target m t p a) true)
least_wrong m (Total u a) t w = least_wrong_two w (option_map_or has_range (attribute_of m u a) true)
least_wrong m (Is a x) t w = least_wrong_one w (option_map_or has_words (attribute_of m t a) true)
least_wrong m form t w = least_wrong_none w

least_own_at : (m : Model) (k : FaultKind) (e : Expr) (s : Standing) (at : Option ℕ) → s.at ≡ at → first_is_least (own_faults m k e s) ≡ true
least_own_at m Deep e s at is = least_whole (is_too_deep s.levels)
least_own_at m UnknownName e s None is = rw is refl
least_own_at m UnknownName e s (Some t) is = rw is (least_names m (out-Expr e) t)
least_own_at m WrongKind e s None is = rw is (least_wrong_none (is_wrong_kind s.needs_truth (out-Expr e)))
least_own_at m WrongKind e s (Some t) is = rw is (least_wrong m (out-Expr e) t (is_wrong_kind s.needs_truth (out-Expr e)))
least_own_at m Wide e s at is = least_whole (option_map_or (is_innermost_unbounded m e) s.at false)

-- none of the own faults is before the first of them
pub own_ascend : (m : Model) (k : FaultKind) (e : Expr) (s : Standing) (p q : List ℕ) → IsAt (own_faults m k e s) 0 p → Contains (own_faults m k e s) q → ¬ IsPathBefore q p
own_ascend m k e s p q first among = first_least (own_faults m k e s) p q (least_own_at m k e s s.at refl) first among

-- ---- own faults come before those of arguments

-- the path to the whole, or to a name at a place up to this one
abbrev is_early : ℕ → List ℕ → Bool
is_early place [] = true
is_early place (k ∷ []) = nat_le k place
is_early place (k ∷ j ∷ path) = false

early_whole : (place : ℕ) (b : Bool) → list_all (is_early place) (whole_if b) ≡ true
early_whole place true = refl
early_whole place false = refl

early_one : (b : Bool) → list_all (is_early 2) (places (place_unless b 1)) ≡ true
early_one true = refl
early_one false = refl

early_names : (m : Model) (f : Expr-F Expr) (t i : ℕ) (arg : Expr) → IsAt (argument_list f) i arg → list_all (is_early (first_place f)) (places (unknown_names m f t)) ≡ true
early_names m (Num n) t i arg found = cc
early_names m (Attr a) t i arg found = cc
early_names m (Count p) t i arg found = cc
early_names m (CountOf p u) t i arg found = cc
early_names m (Sum p a) t i arg found = cc
early_names m (Total u a) t i arg found = cc
early_names m (Number u) t i arg found = cc
early_names m (Is a w) t i arg found = cc
early_names m (Kind u) t i arg found = cc
early_names m (All p e) t i arg found = early_one (is_some (declared_port_of m t p))
early_names m (Any p e) t i arg found = early_one (is_some (declared_port_of m t p))
early_names m form t i arg found = refl

early_wrong_none : (place : ℕ) (w : Bool) → list_all (is_early place) (whole_if w ++ []) ≡ true
early_wrong_none place true = refl
early_wrong_none place false = refl

early_wrong : (m : Model) (f : Expr-F Expr) (t : ℕ) (w : Bool) (i : ℕ) (arg : Expr) → IsAt (argument_list f) i arg
    → list_all (is_early (first_place f)) (whole_if w ++ places (wrong_attributes m f t)) ≡ true
early_wrong m (Attr a) t w i arg found = cc
early_wrong m (Sum p a) t w i arg found = cc
early_wrong m (Total u a) t w i arg found = cc
early_wrong m (Is a x) t w i arg found = cc
early_wrong m form t w i arg found = early_wrong_none (first_place form) w

early_own : (m : Model) (k : FaultKind) (e : Expr) (s : Standing) (at : Option ℕ) → s.at ≡ at → (i : ℕ) (arg : Expr) → IsAt (argument_list (out-Expr e)) i arg
    → list_all (is_early (first_place (out-Expr e))) (own_faults m k e s) ≡ true
early_own m Deep e s at is i arg found = early_whole (first_place (out-Expr e)) (is_too_deep s.levels)
early_own m UnknownName e s None is i arg found = rw is refl
early_own m UnknownName e s (Some t) is i arg found = rw is (early_names m (out-Expr e) t i arg found)
early_own m WrongKind e s None is i arg found = rw is (early_wrong_none (first_place (out-Expr e)) (is_wrong_kind s.needs_truth (out-Expr e)))
early_own m WrongKind e s (Some t) is i arg found = rw is (early_wrong m (out-Expr e) t (is_wrong_kind s.needs_truth (out-Expr e)) i arg found)
early_own m Wide e s at is i arg found = early_whole (first_place (out-Expr e)) (option_map_or (is_innermost_unbounded m e) s.at false)

not_before_early : (place j : ℕ) (path q : List ℕ) → is_early place q ≡ true → place ≤ j → ¬ IsPathBefore (j ∷ path) q
not_before_early place j path [] early beyond = not_before_whole (j ∷ path)
not_before_early place j path (k ∷ []) early beyond =
    λ before. not_before_whole path (before_rest j k path [] (grind (arith, nat_tests)) before)
not_before_early place j path (k ∷ l ∷ q) early beyond = absurd (false≢true early)

-- no fault of an argument is before one of the part's own
pub own_before_inner : (m : Model) (k : FaultKind) (e : Expr) (s : Standing) (i : ℕ) (arg : Expr) (path q : List ℕ) → IsAt (argument_list (out-Expr e)) i arg
    → Contains (own_faults m k e s) q → ¬ IsPathBefore ((first_place (out-Expr e) + i) ∷ path) q
own_before_inner m k e s i arg path q found among =
    not_before_early (first_place (out-Expr e)) (first_place (out-Expr e) + i) path q
    (all_contains (is_early (first_place (out-Expr e))) (own_faults m k e s) q (early_own m k e s s.at refl i arg found) among) (omega arith)
