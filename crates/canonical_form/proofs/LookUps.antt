-- What it tells that a list has a place that passes, or none.
use Rattle.std.proofs.Common.{◌≡◌, ℕ, zero, suc, ◌+◌, ◌<◌, Bool, true, false, not, cond, ◌||◌, List, [], ◌∷◌, map, take, length, Option, Some, None, refl, sym, ap, subst, ◌∙◌, arith}
use Rattle.std.specs.Prelude.{slice_get, nat_lt}
use Rattle.std.specs.List.{list_any, position, position_or_len}
use Rattle.std.proofs.lemmas.Bool.Decides.{nat_tests}
use Rattle.prod_model.specs.Names.{same_text, is_distinct}
use Rattle.prod_model.proofs.NameLaws.{same_text_symm}

-- a place of a list, and what stands there and passes
pub record Hit {X : Type 0} (p : X → Bool) (xs : List X) (k : ℕ) : Type 0 where
  pub item : X
  pub within : k < length xs
  pub at : slice_get xs k ≡ Some item
  pub passes : p item ≡ true

-- ---- the first place that passes, by recursion

abbrev next_place : Option ℕ → Option ℕ
next_place None = None
next_place (Some k) = Some (suc k)

lt_past : (k n : ℕ) → nat_lt (1 + k) (suc n) ≡ nat_lt k n
lt_past k n = grind (arith, nat_tests)

lt_some : (n : ℕ) → nat_lt 0 (suc n) ≡ true
lt_some n = grind (arith, nat_tests)

past : (k n : ℕ) → cond (nat_lt (1 + k) (suc n)) (Some (1 + k)) None ≡ next_place (cond (nat_lt k n) (Some k) None)
past k n = ap (λ t. cond t (Some (1 + k)) None) (lt_past k n) ∙ by_test (nat_lt k n)
  where
    one : 1 + k ≡ suc k
    one = omega arith

    by_test : (t : Bool) → cond t (Some (1 + k)) None ≡ next_place (cond t (Some k) None)
    by_test true = ap Some one
    by_test false = refl

position_cons : {X : Type 0} (p : X → Bool) (x : X) (xs : List X) → position p (x ∷ xs) ≡ cond (p x) (Some 0) (next_place (position p xs))
position_cons p x xs = by_test (p x)
  where
    by_test : (b : Bool) → cond (nat_lt (cond (not b) (1 + position_or_len p xs) 0) (suc (length xs))) (Some (cond (not b) (1 + position_or_len p xs) 0)) None ≡ cond b (Some 0) (next_place (position p xs))
    by_test true = ap (λ t. cond t (Some 0) None) (lt_some (length xs))
    by_test false = past (position_or_len p xs) (length xs)

some_is : (a b : ℕ) → Some a ≡ Some b → a ≡ b
some_is a b same = cc

pub same_item : {X : Type 0} (x y : X) → Some x ≡ Some y → x ≡ y
same_item x y same = cc

hit_first : {X : Type 0} (p : X → Bool) (x : X) (xs : List X) (k : ℕ) → 0 ≡ k → p x ≡ true → Hit p (x ∷ xs) k
hit_first p x xs zero same passes = record { item = x; within = omega arith; at = refl; passes = passes }
hit_first p x xs (suc k) same passes = absurd (omega arith)

hit_later : {X : Type 0} (p : X → Bool) (x : X) (xs : List X) (k j : ℕ) → suc j ≡ k → Hit p xs j → Hit p (x ∷ xs) k
hit_later p x xs zero j same hit = absurd (omega arith)
hit_later p x xs (suc k) j same hit =
    let e : j ≡ k = omega arith in
    let moved : Hit p xs k = subst (Hit p xs) e hit in
    record { item = moved.item; within = let w = moved.within in omega arith; at = moved.at; passes = moved.passes }

hit_cases : {X : Type 0} (p : X → Bool) (x : X) (xs : List X) (k : ℕ) (b : Bool) (o : Option ℕ) → p x ≡ b → cond b (Some 0) (next_place o) ≡ Some k
    → ((j : ℕ) → o ≡ Some j → Hit p xs j) → Hit p (x ∷ xs) k
hit_cases p x xs k true o is same later = hit_first p x xs k (some_is 0 k same) is
hit_cases p x xs k false None is same later = absurd (cc)
hit_cases p x xs k false (Some j) is same later = hit_later p x xs k j (some_is (suc j) k same) (later j refl)

pub position_hit : {X : Type 0} (p : X → Bool) (xs : List X) (k : ℕ) → position p xs ≡ Some k → Hit p xs k
position_hit p [] k found = absurd (cc)
position_hit p (x ∷ xs) k found = hit_cases p x xs k (p x) (position p xs) refl (sym (position_cons p x xs) ∙ found) (position_hit p xs)

none_next : (o : Option ℕ) → next_place o ≡ None → o ≡ None
none_next None same = refl
none_next (Some k) same = absurd (cc)

first_misses : (b : Bool) (o : Option ℕ) → cond b (Some 0) (next_place o) ≡ None → b ≡ false
first_misses true o same = absurd (cc)
first_misses false o same = refl

others_miss : (b : Bool) (o : Option ℕ) → cond b (Some 0) (next_place o) ≡ None → o ≡ None
others_miss true o same = absurd (cc)
others_miss false o same = none_next o same

pub position_miss : {X : Type 0} (p : X → Bool) (xs : List X) → position p xs ≡ None → (k : ℕ) (x : X) → slice_get xs k ≡ Some x → p x ≡ false
position_miss p [] none k x at = absurd (cc)
position_miss p (y ∷ ys) none zero x at =
    ap p (sym (same_item y x at)) ∙ first_misses (p y) (position p ys) (sym (position_cons p y ys) ∙ none)
position_miss p (y ∷ ys) none (suc k) x at = position_miss p ys (others_miss (p y) (position p ys) (sym (position_cons p y ys) ∙ none)) k x at

-- ---- names that are put in one after another

first_false : (a b : Bool) → (a || b) ≡ false → a ≡ false
first_false a b neither = grind (arith)

pub named_at : {X : Type 0} (name_of : X → List ℕ) (xs : List X) (k : ℕ) (x : X) (name : List ℕ) → slice_get xs k ≡ Some x → list_any (same_text name) (map name_of xs) ≡ false → same_text name (name_of x) ≡ false
named_at name_of [] k x name at none = absurd (cc)
named_at name_of (z ∷ zs) zero x name at none =
    let e : z ≡ x = same_item z x at in ap (λ v. same_text name (name_of v)) (sym e) ∙ first_false (same_text name (name_of z)) (list_any (same_text name) (map name_of zs)) none
named_at name_of (z ∷ zs) (suc k) x name at none = named_at name_of zs k x name at (grind (arith))

-- none of the names before is the same as the next
pub distinct_before : {X : Type 0} (name_of : X → List ℕ) (xs : List X) (k : ℕ) (x : X) → is_distinct (map name_of xs) ≡ true → slice_get xs k ≡ Some x
    → list_any (same_text (name_of x)) (map name_of (take k xs)) ≡ false
distinct_before name_of [] k x distinct at = absurd (cc)
distinct_before name_of (y ∷ ys) zero x distinct at = refl
distinct_before name_of (y ∷ ys) (suc k) x distinct at =
    let rest = distinct_before name_of ys k x (grind (arith)) at in
    let there = named_at name_of ys k x (name_of y) at in
    let swap = same_text_symm (name_of x) (name_of y) in
    grind (arith)
