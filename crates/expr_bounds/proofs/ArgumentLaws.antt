-- The argument expressions of a form: their places, and how deep they nest.
use Rattle.std.proofs.Common.{◌≡◌, ℕ, zero, suc, ◌+◌, ◌<◌, ◌≤◌, max, ◌∙◌, sym, ap, subst, refl, List, [], ◌∷◌, length, Some, Contains, arith}
use Rattle.std.specs.List.{fold, enumerate_from}
use Rattle.std.proofs.lemmas.List.FromFn.{length-enumerate_from, get_or-enumerate_from}
use Rattle.std.proofs.lemmas.Option.{slice_get_within, slice_get-get_or, get_or_from_slice_get}
use Rattle.base_laws.specs.Places.{IsAt}
use Rattle.prod_model.specs.declared.expr.Expr.{Expr}
use Rattle.prod_model.specs.declared.expr.Expr.TheOpen.{Expr-F, Num, Attr, Count, CountOf, Sum, Total, Number, Add, Sub, Times, Cmp, Is, Kind, And, Or, Not, If, All, Any}
use Rattle.prod_model.specs.declared.expr.Expr.TheViews.{out-Expr, roll-Expr, roll-out-Expr}
use Rattle.prod_model.specs.Nesting.{nesting}
use Rattle.prod_model.proofs.ExprBoundsLaws.{nesting_Num, nesting_Attr, nesting_Count, nesting_CountOf, nesting_Sum, nesting_Total, nesting_Number, nesting_Add, nesting_Sub, nesting_Times, nesting_Cmp, nesting_Is, nesting_Kind, nesting_And, nesting_Or, nesting_Not, nesting_If, nesting_All, nesting_Any}
use Rattle.expr_bounds.specs.Parts.{arguments}
use Rattle.expr_bounds.specs.steps.Arguments.{argument_list, first_place}

-- ---- places

arguments_list : (f : Expr-F Expr) → arguments f ≡ enumerate_from (first_place f) (argument_list f)
arguments_list (Num n) = refl
arguments_list (Attr a) = refl
arguments_list (Count p) = refl
arguments_list (CountOf p u) = refl
arguments_list (Sum p a) = refl
arguments_list (Total u a) = refl
arguments_list (Number u) = refl
arguments_list (Add args) = refl
arguments_list (Sub e f) = refl
arguments_list (Times k e) = refl
arguments_list (Cmp r e f) = refl
arguments_list (Is a w) = refl
arguments_list (Kind u) = refl
arguments_list (And args) = refl
arguments_list (Or args) = refl
arguments_list (Not e) = refl
arguments_list (If e f) = refl
arguments_list (All p e) = refl
arguments_list (Any p e) = refl

enumerated_index : {X : Type 0} (n : ℕ) (xs : List X) (k : ℕ) (x : X) → Contains (enumerate_from n xs) (k, x)
    → (i : ℕ) × (IsAt xs i x) × (k ≡ n + i)
enumerated_index n xs k x among =
    let i = among.0 in
    let within : i < length xs = omega (arith, length-enumerate_from n xs, among.1) in
    let read = sym (get_or-enumerate_from n xs i (k, x) within) ∙ among.2 in
    (i, slice_get-get_or xs i x within ∙ ap (λ p. Some p.1) read, sym (ap (λ p. p.0) read))

index_enumerated : {X : Type 0} (n : ℕ) (xs : List X) (i : ℕ) (x : X) → IsAt xs i x → Contains (enumerate_from n xs) (n + i, x)
index_enumerated n xs i x found =
    let within : i < length xs = slice_get_within xs i x found in
    (i, omega (arith, length-enumerate_from n xs), get_or-enumerate_from n xs i (n + i, x) within ∙ ap (λ y. (n + i, y)) (get_or_from_slice_get xs i x x found))

-- an argument of a form has its place
pub argument_index : (f : Expr-F Expr) (k : ℕ) (arg : Expr) → Contains (arguments f) (k, arg)
    → (i : ℕ) × (IsAt (argument_list f) i arg) × (k ≡ first_place f + i)
argument_index f k arg among =
    let Has : List (ℕ × Expr) → Type 0 = λ xs. Contains xs (k, arg) in
    enumerated_index (first_place f) (argument_list f) k arg (subst Has (arguments_list f) among)

pub argument_contained : (f : Expr-F Expr) (i : ℕ) (arg : Expr) → IsAt (argument_list f) i arg → Contains (arguments f) (first_place f + i, arg)
argument_contained f i arg found =
    let Has : List (ℕ × Expr) → Type 0 = λ xs. Contains xs (first_place f + i, arg) in
    subst Has (sym (arguments_list f)) (index_enumerated (first_place f) (argument_list f) i arg found)

-- the first place is 1 or 2
pub first_place_few : (f : Expr-F Expr) → first_place f ≤ 2
first_place_few (Times k e) = omega arith
first_place_few (All p e) = omega arith
first_place_few (Any p e) = omega arith
first_place_few form = omega arith

-- ---- nesting

abbrev deepest : ℕ → List Expr → ℕ
deepest a es = fold (λ n e. max n (nesting e)) a es

nesting_roll : (f : Expr-F Expr) → nesting (roll-Expr f) ≡ 1 + deepest 0 (argument_list f)
nesting_roll (Num n) = nesting_Num n
nesting_roll (Attr a) = nesting_Attr a
nesting_roll (Count p) = nesting_Count p
nesting_roll (CountOf p u) = nesting_CountOf p u
nesting_roll (Sum p a) = nesting_Sum p a
nesting_roll (Total u a) = nesting_Total u a
nesting_roll (Number u) = nesting_Number u
nesting_roll (Add args) = nesting_Add args
nesting_roll (Sub e f) = omega (arith, nesting_Sub e f)
nesting_roll (Times k e) = omega (arith, nesting_Times k e)
nesting_roll (Cmp r e f) = omega (arith, nesting_Cmp r e f)
nesting_roll (Is a w) = nesting_Is a w
nesting_roll (Kind u) = nesting_Kind u
nesting_roll (And args) = nesting_And args
nesting_roll (Or args) = nesting_Or args
nesting_roll (Not e) = omega (arith, nesting_Not e)
nesting_roll (If e f) = omega (arith, nesting_If e f)
nesting_roll (All p e) = omega (arith, nesting_All p e)
nesting_roll (Any p e) = omega (arith, nesting_Any p e)

nesting_form : (e : Expr) → nesting e ≡ 1 + deepest 0 (argument_list (out-Expr e))
nesting_form e = ap nesting (sym (roll-out-Expr e)) ∙ nesting_roll (out-Expr e)

deepest_from : (a : ℕ) (es : List Expr) → a ≤ deepest a es
deepest_from a [] = omega arith
deepest_from a (e ∷ es) = omega (arith, deepest_from (max a (nesting e)) es)

deepest_reaches : (a : ℕ) (es : List Expr) (i : ℕ) (arg : Expr) → IsAt es i arg → nesting arg ≤ deepest a es
deepest_reaches a [] i arg found = cc
deepest_reaches a (e ∷ es) zero arg found = let same : e ≡ arg = cc in omega (arith, deepest_from (max a (nesting e)) es, ap nesting same)
deepest_reaches a (e ∷ es) (suc i) arg found = deepest_reaches (max a (nesting e)) es i arg found

deepest_within : (n a : ℕ) (es : List Expr) → a ≤ n → ((i : ℕ) (arg : Expr) → IsAt es i arg → nesting arg ≤ n) → deepest a es ≤ n
deepest_within n a [] within each = within
deepest_within n a (e ∷ es) within each = deepest_within n (max a (nesting e)) es (omega (arith, each 0 e refl)) (λ i arg found. each (suc i) arg found)

-- an argument nests less deep
pub nesting_argument : (e : Expr) (i : ℕ) (arg : Expr) → IsAt (argument_list (out-Expr e)) i arg → nesting arg < nesting e
nesting_argument e i arg found = omega (arith, nesting_form e, deepest_reaches 0 (argument_list (out-Expr e)) i arg found)

-- what has no deep argument isn't deep
pub nesting_within : (n : ℕ) (e : Expr) → ((i : ℕ) (arg : Expr) → IsAt (argument_list (out-Expr e)) i arg → nesting arg ≤ n) → nesting e ≤ suc n
nesting_within n e each = omega (arith, nesting_form e, deepest_within n 0 (argument_list (out-Expr e)) (omega arith) each)

pub nesting_some : (e : Expr) → 0 < nesting e
nesting_some e = omega (arith, nesting_form e)
